-- What is read is a tree.
use Rattle.std.proofs.Common.{◌≡◌, ℕ, suc, zero, ◌+◌, ◌≤◌, Bool, true, false, not, cond, List, [], ◌∷◌, length, Some}
use Rattle.std.proofs.Common.{None, Result, Ok, Err, refl, ap, sym, subst, ◌⊎◌, inl, inr, arith}
use Rattle.std.proofs.lemmas.Bool.Decides.{nat_tests}
use Rattle.std.specs.Prelude.{◌==◌, nat_le, nat_lt, ok_or, option_and_then, ◌&&◌}
use Rattle.smi_base.specs.declared.trees.TheConstants.{MOST_BYTES_OF_A_LINE}
use Rattle.smi_tree.proofs.Lawfulness.{Always, Always-then, Always-unless, Always-or, entry-suc, no-entry}
use Rattle.smi_tree.proofs.Kept.{always-at, known-some, both-left, both-right, lawful-state, lawful-action}
use Rattle.smi_tree.proofs.Kept.{lawful-station, lawful-operator, lawful-class, lawful-move, lawful-accepted}
use Rattle.smi_tree.proofs.Kept.{lawful-rule, lawful-domain, lawful-device}
use Rattle.smi_tree.specs.Text.{words}
use Rattle.smi_tree.specs.Number.{number_within, is_number, decimal}
use Rattle.smi_tree.specs.Declaration.{one, one_name, two_names, three_names, four_names, tree_line, station_line}
use Rattle.smi_tree.specs.Declaration.{domain_line, name, parent, two, four, declaration_of, keyword_of}
use Rattle.smi_tree.specs.Number.{address_of}
use Rattle.smi_tree.proofs.HierarchyLemmas.{ancestors-none}
use Rattle.smi_tree.specs.Hierarchy.{Hierarchy, undeclared, parent_in}
use Rattle.smi_tree.specs.declared.row.Domain.{Domain}
use Rattle.smi_tree.specs.Additions.{with_declaration, with_words_of}
use Rattle.smi_tree.specs.Named.{IsNamed}
use Rattle.smi_tree.proofs.NamedLemmas.{named-line, named-undeclared}
use Rattle.smi_tree.specs.Lawful.{IsBetween, IsLawful, IsTree}
use Rattle.smi_tree.specs.File.{is_comment, is_tree, is_begun, is_out_of_place, with_words, with_line, with_lines}
use Rattle.smi_tree.specs.File.{go_on, has_one, is_complete}
use Rattle.smi_tree.specs.declared.fault.Fault.{Fault}
use Rattle.smi_tree.specs.declared.fault.Fault.TheVariants as faults
use Rattle.smi_tree.specs.declared.fault.TreeFault.{TreeFault}
use Rattle.smi_tree.specs.declared.declaration.Keyword.{Keyword}
use Rattle.smi_tree.specs.declared.declaration.Keyword.TheVariants as keyword
use Rattle.smi_tree.specs.declared.declaration.Declaration.{Declaration}
use Rattle.smi_tree.specs.declared.declaration.Declaration.TheVariants as declares

-- a tree's number is in its range
abbrev IsDeclared : Declaration → Type 0
IsDeclared (declares.Tree n) = IsBetween 1 65535 n
IsDeclared _ = Unit {0}

-- everything but the `tree` line is after it
abbrev MayFollow : Hierarchy → Declaration → Type 0
MayFollow h (declares.Tree n) = Unit {0}
MayFollow h _ = 1 ≤ h.number

cond-some : (t : Bool) (x n : ℕ) → cond t (Some x) None ≡ Some n → (t ≡ true) × (x ≡ n)
cond-some true x n h = (refl, cc)
cond-some false x n h = cc

le-true : (a b : ℕ) → nat_le a b ≡ true → a ≤ b
le-true a b h = grind (arith, nat_tests)

number-between : (a b : ℕ) (word : List ℕ) (n : ℕ) → number_within a b word ≡ Some n → IsBetween a b n
number-between a b word n h =
    let t = cond-some (is_number word && (nat_le a (decimal word) && nat_le (decimal word) b)) (decimal word) n h in
    let both = both-right (is_number word) (nat_le a (decimal word) && nat_le (decimal word) b) t.0 in
    let low = le-true a (decimal word) (both-left (nat_le a (decimal word)) (nat_le (decimal word) b) both) in
    let high = le-true (decimal word) b (both-right (nat_le a (decimal word)) (nat_le (decimal word) b) both) in
    let P : ℕ → Type 0 = IsBetween a b in
    subst P t.1 (record { least = low; most = high })

-- what a `tree` line declares
record IsTreeLine (d : Declaration) : Type 0 where
  pub number : ℕ
  pub between : IsBetween 1 65535 number
  pub same : d ≡ declares.Tree number

tree-between : (words : List (List ℕ)) → Always IsTreeLine (tree_line words)
unfolding tree_line
tree-between words = Always-then IsTreeLine (one words) _ (λ word is.
    Always-then IsTreeLine (ok_or (number_within 1 65535 word) faults.Malformed) _ (λ n at.
    record {
      number = n;
      between = number-between 1 65535 word n
          (known-some (number_within 1 65535 word) faults.Malformed n at);
      same = refl;
    }))

-- no other keyword declares a tree
record IsOther (d : Declaration) : Type 0 where
  pub declared : IsDeclared d
  pub follows : (h : Hierarchy) → 1 ≤ h.number → MayFollow h d

other : (d : Declaration) → IsDeclared d → IsOther d
other (declares.Tree n) fits = record { declared = fits; follows = λ h begun. tt }
other (declares.State name) fits = record { declared = tt; follows = λ h begun. begun }
other (declares.Action name) fits = record { declared = tt; follows = λ h begun. begun }
other (declares.Station name address) fits = record { declared = tt; follows = λ h begun. begun }
other (declares.Operator name station) fits = record { declared = tt; follows = λ h begun. begun }
other (declares.Class which name first) fits = record { declared = tt; follows = λ h begun. begun }
other (declares.Move class from action to) fits = record { declared = tt; follows = λ h begun. begun }
other (declares.Accept class action) fits = record { declared = tt; follows = λ h begun. begun }
other (declares.Rule which class state target) fits = record { declared = tt; follows = λ h begun. begun }
other (declares.Domain name station class parent) fits = record { declared = tt; follows = λ h begun. begun }
other (declares.Device name domain class) fits = record { declared = tt; follows = λ h begun. begun }

station-other : (words : List (List ℕ)) → Always IsOther (station_line words)
unfolding station_line
station-other words = Always-then IsOther (two words) _ (λ word is.
    Always-then IsOther (name word.0) _ (λ own own_is.
    Always-then IsOther (ok_or (address_of word.1) faults.BadAddress) _ (λ address address_is.
    other (declares.Station own address) tt)))

domain-other : (words : List (List ℕ)) → Always IsOther (domain_line words)
unfolding domain_line
domain-other words = Always-then IsOther (four words) _ (λ word is.
    Always-then IsOther (name word.0) _ (λ own own_is.
    Always-then IsOther (name word.1) _ (λ station station_is.
    Always-then IsOther (name word.2) _ (λ class class_is.
    Always-then IsOther (parent word.3) _ (λ above above_is.
    other (declares.Domain own station class above) tt)))))

declared : (k : Keyword) (words : List (List ℕ)) → Always IsOther (declaration_of k words)
declared keyword.Tree words = always-weaker (tree_line words) (tree-between words)
  where
    always-weaker : (r : Result Declaration Fault) → Always IsTreeLine r → Always IsOther r
    always-weaker (Ok d) h = let P : Declaration → Type 0 = IsOther in
        subst P (sym h.same) (other (declares.Tree h.number) h.between)
    always-weaker (Err fault) h = tt
declared keyword.State words = Always-then IsOther (one_name words) _ (λ own is. other (declares.State own) tt)
declared keyword.Action words = Always-then IsOther (one_name words) _ (λ own is. other (declares.Action own) tt)
declared keyword.Station words = station-other words
declared keyword.Operator words = Always-then IsOther (two_names words) _
    (λ names is. other (declares.Operator names.0 names.1) tt)
declared keyword.DeviceClass words = Always-then IsOther (two_names words) _
    (λ names is. other (declares.Class _ names.0 names.1) tt)
declared keyword.Move words = Always-then IsOther (four_names words) _
    (λ names is. other (declares.Move names.0 names.1 names.2 names.3) tt)
declared keyword.UnitClass words = Always-then IsOther (two_names words) _
    (λ names is. other (declares.Class _ names.0 names.1) tt)
declared keyword.Accept words = Always-then IsOther (two_names words) _
    (λ names is. other (declares.Accept names.0 names.1) tt)
declared keyword.Any words = Always-then IsOther (three_names words) _
    (λ names is. other (declares.Rule _ names.0 names.1 names.2) tt)
declared keyword.All words = Always-then IsOther (three_names words) _
    (λ names is. other (declares.Rule _ names.0 names.1 names.2) tt)
declared keyword.Domain words = domain-other words
declared keyword.Device words = Always-then IsOther (three_names words) _
    (λ names is. other (declares.Device names.0 names.1 names.2) tt)

lawful-number : (h : Hierarchy) (n : ℕ) → IsLawful h → IsBetween 1 65535 n → IsLawful (record h { number = n })
lawful-number h n old between = record {
  number = between.most;
  begun = λ _. between.least;
  states = old.states;
  actions = old.actions;
  stations = old.stations;
  addresses = old.addresses;
  operators = old.operators;
  classes = old.classes;
  moves = old.moves;
  domains = old.domains;
  devices = old.devices;
}

lawful-declaration : (h : Hierarchy) (d : Declaration) → IsLawful h → IsDeclared d → MayFollow h d
    → Always IsLawful (with_declaration h d)
lawful-declaration h (declares.Tree n) old fits begun = lawful-number h n old fits
lawful-declaration h (declares.State name) old fits begun = lawful-state h name old
lawful-declaration h (declares.Action name) old fits begun = lawful-action h name old
lawful-declaration h (declares.Station name address) old fits begun = lawful-station h name address old begun
lawful-declaration h (declares.Operator name station) old fits begun = lawful-operator h name station old
lawful-declaration h (declares.Class which name first) old fits begun = lawful-class h which name first old
lawful-declaration h (declares.Move class from action to) old fits begun = lawful-move h class from action to old
lawful-declaration h (declares.Accept class action) old fits begun = lawful-accepted h class action old
lawful-declaration h (declares.Rule which class state target) old fits begun =
    lawful-rule h which class state target old
lawful-declaration h (declares.Domain name station class parent) old fits begun =
    lawful-domain h name station class parent old
lawful-declaration h (declares.Device name domain class) old fits begun = lawful-device h name domain class old

-- the words after a keyword, where the `tree` line has come or this is it
lawful-words : (h : Hierarchy) (k : Keyword) (words : List (List ℕ)) → IsLawful h
    → (1 ≤ h.number) ⊎ (k ≡ keyword.Tree) →
    Always IsLawful (with_words_of h k words)
lawful-words h k words old (inl begun) = Always-then IsLawful (declaration_of k words) (with_declaration h) (λ d is.
    let o = always-at IsOther (declaration_of k words) d (declared k words) is in
    lawful-declaration h d old o.declared (o.follows h begun))
lawful-words h k words old (inr first) =
    let P : Keyword → Type 0 = λ key. Always IsLawful (with_words_of h key words) in
    subst P (sym first) (Always-then IsLawful (tree_line words) (with_declaration h) (λ d is.
    let t = always-at IsTreeLine (tree_line words) d (tree-between words) is in
    let Q : Declaration → Type 0 = λ e. Always IsLawful (with_declaration h e) in
    subst Q (sym t.same) (lawful-number h t.number old t.between)))

begun-number : (n : ℕ) → not (n == 0) ≡ true → 1 ≤ n
begun-number n h = grind (arith, nat_tests)

in-place : (h : Hierarchy) (word : List ℕ) → is_out_of_place h word ≡ false → (1 ≤ h.number) ⊎ (is_tree word ≡ true)
in-place h word placed = go (is_begun h) (is_tree word) refl placed
  where
    go : (b t : Bool) → is_begun h ≡ b → cond b t (not t) ≡ false → (1 ≤ h.number) ⊎ (t ≡ true)
    go true t is placed = inl (begun-number h.number is)
    go false true is placed = inr refl
    go false false is placed = cc

tree-keyword : (word : List ℕ) (k : Keyword) → is_tree word ≡ true → keyword_of word ≡ Some k → k ≡ keyword.Tree
tree-keyword word k tree is = let first : Some keyword.Tree ≡ Some k = rw tree at is in cc

lawful-line-words : (h : Hierarchy) (ws : List (List ℕ)) → IsLawful h → Always IsLawful (with_words h ws)
unfolding with_words
lawful-line-words h [] old = old
lawful-line-words h (word ∷ more) old = Always-or IsLawful (is_comment word) h _ old
    (Always-unless IsLawful (is_out_of_place h word) faults.TreeLine _ (λ placed.
    Always-then IsLawful (ok_or (keyword_of word) faults.UnknownWord) _ (λ k is.
    let known = known-some (keyword_of word) faults.UnknownWord k is in
    elim (in-place h word placed) [
      | inl begun ↦ lawful-words h k more old (inl begun)
      | inr tree ↦ lawful-words h k more old (inr (tree-keyword word k tree known))
    ])))

lawful-line : (h : Hierarchy) (line : List ℕ) → IsLawful h → Always IsLawful (with_line h line)
unfolding with_line
lawful-line h line old = Always-unless IsLawful (nat_lt MOST_BYTES_OF_A_LINE (length line)) faults.LineTooLong _
    (λ short. lawful-line-words h (words line) old)

abbrev AlwaysRead : (Hierarchy → Type 0) → Result Hierarchy TreeFault → Type 0
AlwaysRead P (Ok h) = P h
AlwaysRead P (Err fault) = Unit {0}

-- what each line keeps, all lines keep
kept-lines : (P : Hierarchy → Type 0) → ((h : Hierarchy) (line : List ℕ) → P h → Always P (with_line h line)) →
    (ls : List (List ℕ)) (number : ℕ) (h : Hierarchy) → P h → AlwaysRead P (with_lines number h ls)
unfolding with_lines
kept-lines P step [] number h old = old
kept-lines P step (line ∷ more) number h old =
    go (with_line h line) (step h line old) (λ next. kept-lines P step more (number + 1) next)
  where
    go : (r : Result Hierarchy Fault) → Always P r →
        ((next : Hierarchy) → P next → AlwaysRead P (with_lines (number + 1) next more)) →
        AlwaysRead P (go_on number (λ next. with_lines (number + 1) next more) r)
    go (Ok next) fits later = later next fits
    go (Err fault) fits later = tt

no-parent : (domain : ℕ) → parent_in [] domain ≡ None
no-parent zero = refl
no-parent (suc k) = ap (option_and_then (λ (row : Domain). row.parent)) (entry-suc {X = Domain} [] k)

lawful-undeclared : IsLawful undeclared
lawful-undeclared = record {
  number = omega arith;
  begun = λ some. some;
  states = omega arith;
  actions = omega arith;
  stations = omega arith;
  addresses = refl;
  operators = record {
    most = omega arith;
    rows = refl;
    each = λ n row is. absurd (no-entry n row is);
    of_station = λ s. omega arith;
  };
  classes = record { most = omega arith; rows = refl; each = λ n row is. absurd (no-entry n row is) };
  moves = λ n row is. absurd (no-entry n row is);
  domains = record {
    most = omega arith;
    rows = refl;
    each = λ n row is. absurd (no-entry n row is);
    children = λ p. omega arith;
    depth = λ domain. (let none = ap length (ancestors-none 8 [] domain (no-parent domain)) in omega (arith, none));
  };
  devices = record {
    most = omega arith;
    rows = refl;
    each = λ n row is. absurd (no-entry n row is);
    of_domain = λ d. omega arith;
  };
}

one-of : {X : Type 0} (xs : List X) → has_one xs ≡ true → 1 ≤ length xs
one-of [] h = cc
one-of (x ∷ xs) h = omega arith

complete : (h : Hierarchy) → IsLawful h → IsNamed h → is_complete h ≡ true → IsTree h
complete h old named all =
    let not_stations = both-right (has_one h.station_names)
    (has_one h.operator_names && (has_one h.state_names && (has_one h.action_names && has_one h.domain_names))) all in
    let not_operators = both-right (has_one h.operator_names)
    (has_one h.state_names && (has_one h.action_names && has_one h.domain_names)) not_stations in
    let not_states = both-right (has_one h.state_names) (has_one h.action_names && has_one h.domain_names)
    not_operators in
    let stations = one-of h.station_names (both-left (has_one h.station_names)
    (has_one h.operator_names && (has_one h.state_names && (has_one h.action_names && has_one h.domain_names)))
    all) in
    record {
      lawful = old;
      number = old.begun stations;
      states = one-of h.state_names (both-left (has_one h.state_names)
          (has_one h.action_names && has_one h.domain_names) not_operators);
      actions = one-of h.action_names (both-left (has_one h.action_names) (has_one h.domain_names) not_states);
      stations = stations;
      operators = one-of h.operator_names (both-left (has_one h.operator_names)
          (has_one h.state_names && (has_one h.action_names && has_one h.domain_names)) not_stations);
      domains = one-of h.domain_names (both-right (has_one h.action_names) (has_one h.domain_names) not_states);
      names = named;
    }

-- what is read, once it is complete, is a tree
pub IsTree-read : (ls : List (List ℕ)) (h : Hierarchy) → with_lines 1 undeclared ls ≡ Ok h → is_complete h ≡ true
    → IsTree h
IsTree-read ls h is all = complete h
    (read IsLawful (with_lines 1 undeclared ls) (kept-lines IsLawful lawful-line ls 1 undeclared lawful-undeclared) is)
    (read IsNamed (with_lines 1 undeclared ls) (kept-lines IsNamed named-line ls 1 undeclared named-undeclared) is) all
  where
    read : (P : Hierarchy → Type 0) (r : Result Hierarchy TreeFault) → AlwaysRead P r → r ≡ Ok h → P h
    read P (Ok other) fits same = let e : other ≡ h = cc in subst P e fits
    read P (Err fault) fits same = cc
