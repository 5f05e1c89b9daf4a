-- A line that declares a move, where its first words are names that are known.
use Rattle.std.proofs.Common.{◌≡◌, ℕ, Bool, true, cond, List, [], ◌∷◌, ◌++◌, Option, Some, None, Result, Ok, Err, refl}
use Rattle.std.proofs.Common.{ap, ◌∙◌}
use Rattle.std.specs.Prelude.{ok_or, is_some, if◌then◌else◌}
use Rattle.smi_tree.specs.Fault.{◌>>=◌}
use Rattle.smi_tree.specs.Name.{is_name, number_of}
use Rattle.smi_tree.specs.ClassTable.{ClassTable, is_kind}
use Rattle.smi_tree.specs.Declaration.{one, two, four, name, one_name, two_names, four_names}
use Rattle.smi_tree.specs.Hierarchy.{Hierarchy, entry, move_in}
use Rattle.smi_tree.specs.Additions.{known, known_class, with_move, with_words_of, with_declaration}
use Rattle.smi_tree.specs.declared.fault.Fault.{Fault}
use Rattle.smi_tree.specs.declared.fault.Fault.TheVariants.{Malformed, Twice, OtherKind, UnknownName}
use Rattle.smi_tree.specs.declared.declaration.ClassKind.{ClassKind}
use Rattle.smi_tree.specs.declared.declaration.ClassKind.TheVariants as kind
use Rattle.smi_tree.specs.declared.declaration.Keyword.TheVariants as keyword
use Rattle.smi_tree.specs.declared.declaration.Declaration.TheVariants as declares

-- how a word is read as a name
abbrev Reader : Type 0
Reader = List ℕ → Result (List ℕ) Fault

abbrev pub Pair : Type 0
Pair = List ℕ × List ℕ

abbrev pub Four : Type 0
Four = List ℕ × List ℕ × List ℕ × List ℕ

abbrev pub pair : List ℕ → List ℕ → Result Pair Fault
pair a b = Ok (a, b)

abbrev fourth : List ℕ → List ℕ → List ℕ → List ℕ → Result Four Fault
fourth a b c d = Ok (a, b, c, d)

named : (word : List ℕ) → is_name word ≡ true → name word ≡ Ok word
named word is = ap (λ (b : Bool). ok_or (cond b (Some word) None) Malformed) is

two-read : (read : Reader) (first : List ℕ) (ws : List (List ℕ)) (r : Result (List ℕ) Fault) → one ws ≡ r
    → read first ≡ Ok first →
    (two (first ∷ ws) >>= (λ word. read word.0 >>= (λ a. read word.1 >>= (λ b. pair a b))))
    ≡ ((one ws >>= read) >>= (λ b. pair first b))
two-read read first ws (Err fault) is first_is = rw is refl
two-read read first ws (Ok second) is first_is = rw (is, first_is) refl

-- two words, the first of which is a name
pub two_names-after : (first : List ℕ) (ws : List (List ℕ)) → is_name first ≡ true →
    two_names (first ∷ ws) ≡ (one_name ws >>= (λ second. pair first second))
unfolding one_name two_names
two_names-after first ws is = two-read name first ws (one ws) refl (named first is)

-- what is made of the names of a move
abbrev Taker : Type 0
Taker = List ℕ → List ℕ → List ℕ → List ℕ → Result Hierarchy Fault

both-read : (take : Taker) (class from : List ℕ) (x y : Result (List ℕ) Fault) →
    ((x >>= (λ a. y >>= (λ b. fourth class from a b))) >>= (λ names. take names.0 names.1 names.2 names.3))
    ≡ ((x >>= (λ a. y >>= (λ b. pair a b))) >>= (λ names. take class from names.0 names.1))
both-read take class from (Err fault) y = refl
both-read take class from (Ok a) (Err fault) = refl
both-read take class from (Ok a) (Ok b) = refl

four-read : (take : Taker) (read : Reader) (class from : List ℕ) (ws : List (List ℕ))
    (r : Result Pair Fault) → two ws ≡ r → read class ≡ Ok class → read from ≡ Ok from →
    ((four (class ∷ (from ∷ ws)) >>= (λ word. read word.0 >>= (λ a. read word.1 >>= (λ b. read word.2 >>= (λ c.
    read word.3 >>= (λ d. fourth a b c d)))))) >>= (λ names. take names.0 names.1 names.2 names.3))
    ≡ ((two ws >>= (λ word. read word.0 >>= (λ a. read word.1 >>= (λ b. pair a b))))
    >>= (λ names. take class from names.0 names.1))
four-read take read class from ws (Err fault) is class_read from_read = rw is refl
four-read take read class from ws (Ok words) is class_read from_read =
    rw (is, class_read, from_read) (both-read take class from (read words.0) (read words.1))

move-of : (h : Hierarchy) (r : Result Four Fault) →
    ((r >>= (λ names. Ok (declares.Move names.0 names.1 names.2 names.3))) >>= with_declaration h)
    ≡ (r >>= (λ names. with_move h names.0 names.1 names.2 names.3))
move-of h (Ok names) = refl
move-of h (Err fault) = refl

-- four names, or what is wrong with them
pub move-read : (h : Hierarchy) (ws : List (List ℕ)) (r : Result Four Fault)
    → four_names ws ≡ r →
    with_words_of h keyword.Move ws ≡ (r >>= (λ names. with_move h names.0 names.1 names.2 names.3))
move-read h ws r is = move-of h (four_names ws)
    ∙ ap (λ (x : Result Four Fault).
    x >>= (λ names. with_move h names.0 names.1 names.2 names.3)) is

move-after : (h : Hierarchy) (class from : List ℕ) (ws : List (List ℕ)) → is_name class ≡ true → is_name from ≡ true →
    with_words_of h keyword.Move (class ∷ (from ∷ ws))
    ≡ (two_names ws >>= (λ names. with_move h class from names.0 names.1))
unfolding two_names four_names
move-after h class from ws class_is from_is =
    move-of h (four_names (class ∷ (from ∷ ws)))
    ∙ four-read (with_move h) name class from ws (two ws) refl (named class class_is) (named from from_is)

-- after the names of the class and of the state two names, or what is wrong with them
pub move-read_after : (h : Hierarchy) (class from : List ℕ) (ws later : List (List ℕ))
    (r : Result Pair Fault) → ws ≡ class ∷ (from ∷ later) → is_name class ≡ true → is_name from ≡ true
    → two_names later ≡ r →
    with_words_of h keyword.Move ws ≡ (r >>= (λ names. with_move h class from names.0 names.1))
move-read_after h class from ws later r parted class_is from_is is =
    ap (with_words_of h keyword.Move) parted
    ∙ (move-after h class from later class_is from_is
    ∙ ap (λ (x : Result Pair Fault). x >>= (λ names. with_move h class from names.0 names.1)) is)

last-of : (take : Taker) (class from action : List ℕ) (r : Result (List ℕ) Fault) →
    ((r >>= (λ to. pair action to)) >>= (λ names. take class from names.0 names.1)) ≡ (r >>= take class from action)
last-of take class from action (Ok to) = refl
last-of take class from action (Err fault) = refl

-- after the names of the class, of the state and of the action one name, or what is wrong with it
pub move-read_last : (h : Hierarchy) (class from action : List ℕ) (ws later last : List (List ℕ))
    (r : Result (List ℕ) Fault) → ws ≡ class ∷ (from ∷ later) → is_name class ≡ true → is_name from ≡ true
    → later ≡ action ∷ last → is_name action ≡ true → one_name last ≡ r →
    with_words_of h keyword.Move ws ≡ (r >>= with_move h class from action)
move-read_last h class from action ws later last r parted class_is from_is more action_is is =
    let two : two_names later ≡ (r >>= (λ to. pair action to)) =
    ap two_names more
    ∙ (two_names-after action last action_is ∙ ap (λ (x : Result (List ℕ) Fault). x >>= (λ to. pair action to)) is)
    in
    move-read_after h class from ws later (r >>= (λ to. pair action to)) parted class_is from_is two
    ∙ last-of (with_move h) class from action r

-- what is made of a move whose class, state and action are found
abbrev pub found_move : Hierarchy → ℕ → ClassKind → ℕ → ℕ → Result ℕ Fault → Result Hierarchy Fault
found_move h class which from action target = target >>= (λ to.
    if is_some (move_in h.moves class from action) then Err Twice
    else (if is_kind which kind.Device
    then Ok (record h { moves = h.moves ++ record { class = class; from = from; action = action; to = to } ∷ [] })
    else Err OtherKind))

-- what is made of a move, by what is found of its names
abbrev move_by : Hierarchy → Result (ℕ × ClassTable) Fault → Result ℕ Fault → Result ℕ Fault → Result ℕ Fault
    → Result Hierarchy Fault
move_by h found before by target = found >>= (λ class. before >>= (λ from. by >>= (λ action.
    found_move h class.0 class.1.kind from action target)))

move-by : (h : Hierarchy) (class from action to : List ℕ) →
    with_move h class from action to
    ≡ move_by h (known_class h class) (known h.state_names from) (known h.action_names action) (known h.state_names to)
unfolding with_move
move-by h class from action to = refl

by-found : (h : Hierarchy) (x : Result (ℕ × ClassTable) Fault) (y z target : Result ℕ Fault) (class from action : ℕ)
    (table : ClassTable) (which : ClassKind) → x ≡ Ok (class, table) → table.kind ≡ which → y ≡ Ok from → z ≡ Ok action
    → move_by h x y z target ≡ found_move h class which from action target
by-found h x y z target class from action table which class_is kind_is from_is action_is =
    rw (class_is, from_is, action_is)
    (ap (λ (k : ClassKind). found_move h class k from action target) kind_is)

pub move-found : (h : Hierarchy) (class_name from_name action_name to_name : List ℕ) (class from action : ℕ)
    (table : ClassTable) (which : ClassKind) → known_class h class_name ≡ Ok (class, table) → table.kind ≡ which
    → known h.state_names from_name ≡ Ok from → known h.action_names action_name ≡ Ok action →
    with_move h class_name from_name action_name to_name
    ≡ found_move h class which from action (known h.state_names to_name)
move-found h class_name from_name action_name to_name class from action table which class_is kind_is from_is action_is =
    move-by h class_name from_name action_name to_name
    ∙ by-found h (known_class h class_name) (known h.state_names from_name) (known h.action_names action_name)
    (known h.state_names to_name) class from action table which class_is kind_is from_is action_is

by-unknown : (h : Hierarchy) (x : Result (ℕ × ClassTable) Fault) (y z target : Result ℕ Fault) (class : ℕ × ClassTable)
    (from : ℕ) (fault : Fault) → x ≡ Ok class → y ≡ Ok from → z ≡ Err fault → move_by h x y z target ≡ Err fault
by-unknown h x y z target class from fault class_is from_is unknown = rw (class_is, from_is, unknown) refl

-- a move by an action that is not known
pub move-unknown : (h : Hierarchy) (class_name from_name action_name to_name : List ℕ) (class : ℕ × ClassTable)
    (from : ℕ) (fault : Fault) → known_class h class_name ≡ Ok class → known h.state_names from_name ≡ Ok from
    → known h.action_names action_name ≡ Err fault →
    with_move h class_name from_name action_name to_name ≡ Err fault
move-unknown h class_name from_name action_name to_name class from fault class_is from_is unknown =
    move-by h class_name from_name action_name to_name
    ∙ by-unknown h (known_class h class_name) (known h.state_names from_name) (known h.action_names action_name)
    (known h.state_names to_name) class from fault class_is from_is unknown

-- a name is known by its number
pub known-number : (names : List (List ℕ)) (name : List ℕ) (number : ℕ) → number_of names name ≡ Some number
    → known names name ≡ Ok number
known-number names name number is = ap (λ (found : Option ℕ). ok_or found UnknownName) is

-- a class is known by its number and its table
pub known-class : (h : Hierarchy) (name : List ℕ) (class : ℕ) (table : ClassTable)
    → number_of h.class_names name ≡ Some class → entry h.classes class ≡ Some table →
    known_class h name ≡ Ok (class, table)
unfolding known_class
known-class h name class table number row =
    ap (λ (found : Option ℕ). ok_or found UnknownName >>= (λ (n : ℕ).
    ok_or (entry h.classes n) UnknownName >>= (λ (t : ClassTable). Ok (n, t)))) number
    ∙ ap (λ (found : Option ClassTable). ok_or found UnknownName >>= (λ (t : ClassTable). Ok (class, t))) row
