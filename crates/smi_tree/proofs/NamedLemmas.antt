-- No declaration lets a name occur twice.
use Rattle.std.proofs.Common.{◌≡◌, ℕ, zero, suc, ◌+◌, ◌<◌, ◌^◌, Result, IfOk, OnErr, Bool, true, false, cond}
use Rattle.std.proofs.Common.{List, [], ◌∷◌}
use Rattle.std.proofs.Common.{◌++◌, length, Option, Some, None, Ok, Err, refl, ap, ◌∙◌, sym, subst, ◌⊎◌, inl, inr}
use Rattle.std.proofs.Common.{arith}
use Rattle.std.specs.Prelude.{◌||◌, ◌&&◌, ◌==◌, nat_lt, count_by, is_some, ok_or, slice_get}
use Rattle.std.specs.Option.{option_or}
use Rattle.std.specs.List.{list_any, list_all}
use Rattle.std.proofs.lemmas.List.Folds.{list_all-append}
use Rattle.std.specs.Str.{bytes_eq}
use Rattle.std.proofs.lemmas.Slice.Eq.{bytes_eq-Decides}
use Rattle.smi_tree.proofs.Cutting.{either}
use Rattle.smi_tree.proofs.NumberLemmas.{position_from-more, absent-new}
use Rattle.indexmap.specs.IndexSet.{insert_key}
use Rattle.std.proofs.lemmas.List.{length-append}
use Rattle.smi_base.specs.declared.trees.TheConstants.{MOST_ACTIONS, MOST_BYTES_OF_A_LINE, MOST_CLASSES}
use Rattle.smi_base.specs.declared.trees.TheConstants.{MOST_DEVICES, MOST_DEVICES_OF_A_DOMAIN, MOST_DOMAINS}
use Rattle.smi_base.specs.declared.trees.TheConstants.{MOST_OPERATORS, MOST_RULES_OF_A_CLASS, MOST_STATES}
use Rattle.smi_base.specs.declared.trees.TheConstants.{MOST_STATIONS}
use Rattle.smi_tree.proofs.Lawfulness.{Always, Always-then, Always-unless, Always-where, Always-or, entry-push}
use Rattle.smi_tree.proofs.Lawfulness.{no-entry, entry-suc}
use Rattle.smi_tree.proofs.Kept.{both-left, both-right}
use Rattle.smi_tree.specs.Text.{words}
use Rattle.smi_tree.specs.Name.{number_of, is_declared, is_name, added}
use Rattle.smi_tree.specs.ClassTable.{is_kind}
use Rattle.smi_tree.specs.Hierarchy.{Hierarchy, undeclared, entry, move_in, is_device_of}
use Rattle.smi_tree.specs.Named.{AreOnce, AreApart, IsNamed}
use Rattle.smi_tree.specs.Declaration.{declaration_of, keyword_of}
use Rattle.smi_tree.specs.Additions.{known, known_class, known_parent, is_taken, has_room, with_state, with_action}
use Rattle.smi_tree.specs.Additions.{with_station, with_operator, with_class, with_move, with_accepted, with_rule}
use Rattle.smi_tree.specs.Additions.{with_domain, with_device, with_declaration, with_words_of}
use Rattle.smi_tree.specs.File.{is_comment, is_out_of_place, with_words, with_line}
use Rattle.smi_tree.specs.declared.number.Address.{Address}
use Rattle.smi_tree.specs.declared.fault.Fault.TheVariants as faults
use Rattle.smi_tree.specs.declared.declaration.ClassKind.{ClassKind}
use Rattle.smi_tree.specs.declared.declaration.ClassKind.TheVariants as kind
use Rattle.smi_tree.specs.declared.declaration.Quantifier.{Quantifier}
use Rattle.smi_tree.specs.declared.declaration.Keyword.{Keyword}
use Rattle.smi_tree.specs.declared.declaration.Declaration.{Declaration}
use Rattle.smi_tree.specs.declared.declaration.Declaration.TheVariants as declares

none-of : (found : Option ℕ) → is_some found ≡ false → found ≡ None
none-of (Some n) h = cc
none-of None h = refl

-- one more name that is not there yet
pub once-push : (names : List (List ℕ)) (new : List ℕ) → AreOnce names → is_declared names new ≡ false
    → AreOnce (names ++ new ∷ [])
once-push names new once fresh = λ number name at. elim (entry-push names new name number at) [
  | inl old ↦ position_from-more (bytes_eq name) 1 names new
      ∙ ap (λ (found : Option ℕ). option_or found (cond (bytes_eq name new) (Some (1 + length names)) None))
      (once number name old)
  | inr last ↦ (let P : List ℕ → Type 0 = λ n. number_of (names ++ new ∷ []) n ≡ Some number in
      let here : bytes_eq new new ≡ true = (bytes_eq-Decides new new).1 refl in
      subst P (sym last.1) (position_from-more (bytes_eq new) 1 names new
      ∙ ap (λ (found : Option ℕ). option_or found (cond (bytes_eq new new) (Some (1 + length names)) None))
      (none-of (number_of names new) fresh)
      ∙ ap (λ (b : Bool). cond b (Some (1 + length names)) None) here
      ∙ ap Some (omega (arith, last.0))))
]

once-inserted : {E : Type 0} (r : Result Bool E) (old names : List (List ℕ)) (new : List ℕ) →
    IfOk r (λ _. names ≡ insert_key bytes_eq old new) → OnErr r (names ≡ old) → number_of old new ≡ None
    → length old + 1 < 2 ^ 16 → AreOnce old →
    (length names < 2 ^ 16) × AreOnce names
once-inserted (Ok b) old names new is err absent few once =
    let grown : names ≡ old ++ new ∷ [] = is ∙ absent-new old new absent in
    let longer : length names ≡ length old + 1 = ap length grown ∙ length-append old (new ∷ []) in
    (omega (arith, few, longer), subst AreOnce (sym grown) (once-push old new once (ap is_some absent)))
once-inserted (Err e) old names new is same absent few once =
    let as_long : length names ≡ length old = ap length same in
    (omega (arith, few, as_long), subst AreOnce (sym same) once)

and-true : (a b : Bool) → a ≡ true → b ≡ true → (a && b) ≡ true
and-true true b h i = i
and-true false b h i = cc

-- kept names are well formed, after an insertion that may have failed
named-inserted : {E : Type 0} (r : Result Bool E) (old names : List (List ℕ)) (new : List ℕ) →
    IfOk r (λ _. names ≡ insert_key bytes_eq old new) → OnErr r (names ≡ old) → number_of old new ≡ None
    → is_name new ≡ true → list_all is_name old ≡ true → list_all is_name names ≡ true
named-inserted (Ok b) old names new is same absent good all =
    let grown : names ≡ old ++ new ∷ [] = is ∙ absent-new old new absent in
    let P : List (List ℕ) → Type 0 = λ ns. list_all is_name ns ≡ true in
    subst P (sym grown) (list_all-append is_name old (new ∷ [])
    ∙ and-true (list_all is_name old) (list_all is_name (new ∷ [])) all (and-true (is_name new) true good refl))
named-inserted (Err e) old names new is same absent good all =
    let P : List (List ℕ) → Type 0 = λ ns. list_all is_name ns ≡ true in subst P (sym same) all

get-all : (p : List ℕ → Bool) (names : List (List ℕ)) (place : ℕ) (name : List ℕ) → list_all p names ≡ true
    → slice_get names place ≡ Some name → p name ≡ true
get-all p [] place name all at = cc
get-all p (first ∷ later) zero name all at =
    let same : first ≡ name = cc in
    let P : List ℕ → Type 0 = λ n. p n ≡ true in subst P same (both-left (p first) (list_all p later) all)
get-all p (first ∷ later) (suc place) name all at =
    get-all p later place name (both-right (p first) (list_all p later) all) at

-- what holds of all names holds of that of a number
pub entry-all : (p : List ℕ → Bool) (names : List (List ℕ)) (number : ℕ) (name : List ℕ) → list_all p names ≡ true
    → entry names number ≡ Some name → p name ≡ true
entry-all p names zero name all at = cc
entry-all p names (suc place) name all at = get-all p names place name all (sym (entry-suc names place) ∙ at)

-- names after an insertion that may have failed: few, each there once, and well formed
pub kept-inserted : {E : Type 0} (r : Result Bool E) (old names : List (List ℕ)) (new : List ℕ) →
    IfOk r (λ _. names ≡ insert_key bytes_eq old new) → OnErr r (names ≡ old) → number_of old new ≡ None
    → length old + 1 < 2 ^ 16 → is_name new ≡ true → AreOnce old → list_all is_name old ≡ true →
    (length names < 2 ^ 16) × AreOnce names × (list_all is_name names ≡ true)
kept-inserted r old names new is same absent few good once all =
    let both = once-inserted r old names new is same absent few once in
    (both.0, both.1, named-inserted r old names new is same absent good all)

declared-push : (names : List (List ℕ)) (new name : List ℕ) → is_declared (names ++ new ∷ []) name ≡ true →
    (is_declared names name ≡ true) ⊎ (name ≡ new)
declared-push names new name there = go (number_of names name) (bytes_eq name new) refl refl
    (ap is_some (sym (position_from-more (bytes_eq name) 1 names new)) ∙ there)
  where
    go : (found : Option ℕ) (b : Bool) → number_of names name ≡ found → bytes_eq name new ≡ b →
        is_some (option_or found (cond b (Some (1 + length names)) None)) ≡ true
        → (is_declared names name ≡ true) ⊎ (name ≡ new)
    go (Some n) b is same h = inl (ap is_some is)
    go None true is same h = inr ((bytes_eq-Decides name new).0 same)
    go None false is same h = cc

apart-left : (names others : List (List ℕ)) (new : List ℕ) → AreApart names others → is_declared others new ≡ false →
    AreApart (names ++ new ∷ []) others
apart-left names others new apart fresh = λ name there. elim (declared-push names new name there) [
  | inl old ↦ apart name old
  | inr same ↦ (let P : List ℕ → Type 0 = λ n. is_declared others n ≡ false in subst P (sym same) fresh)
]

apart-right : (names others : List (List ℕ)) (new : List ℕ) → AreApart names others → is_declared names new ≡ false →
    AreApart names (others ++ new ∷ [])
apart-right names others new apart fresh = λ name there. elim (either (is_declared (others ++ new ∷ []) name)) [
  | inl held ↦ elim (declared-push others new name held) [
    | inl old ↦ absurd (let never = apart name there in cc)
    | inr same ↦ absurd (let P : List ℕ → Type 0 = λ n. is_declared names n ≡ false in
        let never = subst P (sym same) fresh in cc)
  ]
  | inr other ↦ other
]

or-left : (a b : Bool) → (a || b) ≡ false → a ≡ false
or-left true b h = cc
or-left false b h = refl

or-right : (a b : Bool) → (a || b) ≡ false → b ≡ false
or-right true b h = cc
or-right false b h = h

once-added : (limit : ℕ) (old names : List (List ℕ)) (name : List ℕ) → AreOnce old → added limit old name ≡ Ok names
    → AreOnce names
once-added limit old names name once h = go (is_declared old name) (nat_lt (length old) limit) refl h
  where
    go : (b c : Bool) → is_declared old name ≡ b
        → cond b (Err faults.Twice) (cond c (Ok (old ++ name ∷ [])) (Err faults.OverLimit)) ≡ Ok names → AreOnce names
    go true c is h = cc
    go false false is h = cc
    go false true is h = let same : old ++ name ∷ [] ≡ names = cc in subst AreOnce same (once-push old name once is)

named-state : (h : Hierarchy) (name : List ℕ) → IsNamed h → Always IsNamed (with_state h name)
unfolding with_state
named-state h name old = Always-then IsNamed (added MOST_STATES h.state_names name)
    (λ names. Ok (record h { state_names = names })) (λ names is.
    record {
      states_once = once-added MOST_STATES h.state_names names name old.states_once is;
      actions_once = old.actions_once;
      stations_once = old.stations_once;
      classes_once = old.classes_once;
      operators_once = old.operators_once;
      domains_once = old.domains_once;
      devices_once = old.devices_once;
      operators_and_domains = old.operators_and_domains;
      operators_and_devices = old.operators_and_devices;
      domains_and_devices = old.domains_and_devices;
    })

named-action : (h : Hierarchy) (name : List ℕ) → IsNamed h → Always IsNamed (with_action h name)
unfolding with_action
named-action h name old = Always-then IsNamed (added MOST_ACTIONS h.action_names name)
    (λ names. Ok (record h { action_names = names })) (λ names is.
    record {
      states_once = old.states_once;
      actions_once = once-added MOST_ACTIONS h.action_names names name old.actions_once is;
      stations_once = old.stations_once;
      classes_once = old.classes_once;
      operators_once = old.operators_once;
      domains_once = old.domains_once;
      devices_once = old.devices_once;
      operators_and_domains = old.operators_and_domains;
      operators_and_devices = old.operators_and_devices;
      domains_and_devices = old.domains_and_devices;
    })

named-station : (h : Hierarchy) (name : List ℕ) (address : Address) → IsNamed h
    → Always IsNamed (with_station h name address)
unfolding with_station
named-station h name address old = Always-then IsNamed (added MOST_STATIONS h.station_names name)
    (λ names. Ok (record h { station_names = names; addresses = h.addresses ++ address ∷ [] })) (λ names is.
    record {
      states_once = old.states_once;
      actions_once = old.actions_once;
      stations_once = once-added MOST_STATIONS h.station_names names name old.stations_once is;
      classes_once = old.classes_once;
      operators_once = old.operators_once;
      domains_once = old.domains_once;
      devices_once = old.devices_once;
      operators_and_domains = old.operators_and_domains;
      operators_and_devices = old.operators_and_devices;
      domains_and_devices = old.domains_and_devices;
    })

named-class : (h : Hierarchy) (which : ClassKind) (name first : List ℕ) → IsNamed h
    → Always IsNamed (with_class h which name first)
unfolding with_class
named-class h which name first old = Always-then IsNamed (known h.state_names first) _ (λ state is.
    Always-then IsNamed (added MOST_CLASSES h.class_names name) _ (λ names more.
    record {
      states_once = old.states_once;
      actions_once = old.actions_once;
      stations_once = old.stations_once;
      classes_once = once-added MOST_CLASSES h.class_names names name old.classes_once more;
      operators_once = old.operators_once;
      domains_once = old.domains_once;
      devices_once = old.devices_once;
      operators_and_domains = old.operators_and_domains;
      operators_and_devices = old.operators_and_devices;
      domains_and_devices = old.domains_and_devices;
    }))

named-operator : (h : Hierarchy) (name station : List ℕ) → IsNamed h → Always IsNamed (with_operator h name station)
unfolding with_operator
named-operator h name station old = Always-then IsNamed (known h.station_names station) _ (λ home is.
    Always-unless IsNamed (is_taken h name) faults.Twice _ (λ fresh.
    Always-where IsNamed (nat_lt (length h.operator_names) MOST_OPERATORS
    && nat_lt (count_by (λ other. other == home) h.homes) 8) faults.OverLimit _ (λ room.
    let no_operator = or-left (is_declared h.operator_names name) _ fresh in
    let others = or-right (is_declared h.operator_names name) _ fresh in
    let no_domain = or-left (is_declared h.domain_names name) _ others in
    let no_device = or-right (is_declared h.domain_names name) _ others in
    record {
      states_once = old.states_once;
      actions_once = old.actions_once;
      stations_once = old.stations_once;
      classes_once = old.classes_once;
      operators_once = once-push h.operator_names name old.operators_once no_operator;
      domains_once = old.domains_once;
      devices_once = old.devices_once;
      operators_and_domains = apart-left h.operator_names h.domain_names name old.operators_and_domains no_domain;
      operators_and_devices = apart-left h.operator_names h.device_names name old.operators_and_devices no_device;
      domains_and_devices = old.domains_and_devices;
    })))

named-move : (h : Hierarchy) (class from action to : List ℕ) → IsNamed h
    → Always IsNamed (with_move h class from action to)
unfolding with_move
named-move h class from action to old = Always-then IsNamed (known_class h class) _ (λ found is.
    Always-then IsNamed (known h.state_names from) _ (λ before from_is.
    Always-then IsNamed (known h.action_names action) _ (λ by action_is.
    Always-then IsNamed (known h.state_names to) _ (λ after to_is.
    Always-unless IsNamed (is_some (move_in h.moves found.0 before by)) faults.Twice _ (λ fresh.
    Always-where IsNamed (is_kind found.1.kind kind.Device) faults.OtherKind _ (λ of. old))))))

named-accepted : (h : Hierarchy) (class action : List ℕ) → IsNamed h → Always IsNamed (with_accepted h class action)
unfolding with_accepted
named-accepted h class action old = Always-then IsNamed (known_class h class) _ (λ found is.
    Always-then IsNamed (known h.action_names action) _ (λ accepted action_is.
    Always-unless IsNamed (list_any (λ other. other == accepted) found.1.accepted) faults.Twice _ (λ fresh.
    Always-where IsNamed (is_kind found.1.kind kind.Unit) faults.OtherKind _ (λ of. old))))

named-rule : (h : Hierarchy) (which : Quantifier) (class state target : List ℕ) → IsNamed h
    → Always IsNamed (with_rule h which class state target)
unfolding with_rule
named-rule h which class state target old = Always-then IsNamed (known_class h class) _ (λ found is.
    Always-then IsNamed (known h.state_names state) _ (λ of of_is.
    Always-then IsNamed (known h.state_names target) _ (λ to to_is.
    Always-where IsNamed (is_kind found.1.kind kind.Unit) faults.OtherKind _ (λ of.
    Always-where IsNamed (nat_lt (length found.1.rules) MOST_RULES_OF_A_CLASS) faults.OverLimit _ (λ room. old)))))

named-domain : (h : Hierarchy) (name station class : List ℕ) (parent : Option (List ℕ)) → IsNamed h
    → Always IsNamed (with_domain h name station class parent)
unfolding with_domain
named-domain h name station class parent old = Always-then IsNamed (known h.station_names station) _ (λ keeper is.
    Always-then IsNamed (known_class h class) _ (λ found of.
    Always-then IsNamed (known_parent h parent) _ (λ above above_is.
    Always-unless IsNamed (is_taken h name) faults.Twice _ (λ fresh.
    Always-where IsNamed (is_kind found.1.kind kind.Unit) faults.OtherKind _ (λ of.
    Always-where IsNamed (nat_lt (length h.domain_names) MOST_DOMAINS && has_room h above) faults.OverLimit _ (λ room.
    let no_operator = or-left (is_declared h.operator_names name) _ fresh in
    let others = or-right (is_declared h.operator_names name) _ fresh in
    let no_domain = or-left (is_declared h.domain_names name) _ others in
    let no_device = or-right (is_declared h.domain_names name) _ others in
    record {
      states_once = old.states_once;
      actions_once = old.actions_once;
      stations_once = old.stations_once;
      classes_once = old.classes_once;
      operators_once = old.operators_once;
      domains_once = once-push h.domain_names name old.domains_once no_domain;
      devices_once = old.devices_once;
      operators_and_domains = apart-right h.operator_names h.domain_names name old.operators_and_domains no_operator;
      operators_and_devices = old.operators_and_devices;
      domains_and_devices = apart-left h.domain_names h.device_names name old.domains_and_devices no_device;
    }))))))

named-device : (h : Hierarchy) (name domain class : List ℕ) → IsNamed h
    → Always IsNamed (with_device h name domain class)
unfolding with_device
named-device h name domain class old = Always-then IsNamed (known h.domain_names domain) _ (λ place is.
    Always-then IsNamed (known_class h class) _ (λ found of.
    Always-unless IsNamed (is_taken h name) faults.Twice _ (λ fresh.
    Always-where IsNamed (is_kind found.1.kind kind.Device) faults.OtherKind _ (λ of.
    Always-where IsNamed (nat_lt (length h.device_names) MOST_DEVICES && nat_lt (count_by
    (is_device_of place) h.devices) MOST_DEVICES_OF_A_DOMAIN)
    faults.OverLimit _ (λ room.
    let no_operator = or-left (is_declared h.operator_names name) _ fresh in
    let others = or-right (is_declared h.operator_names name) _ fresh in
    let no_domain = or-left (is_declared h.domain_names name) _ others in
    let no_device = or-right (is_declared h.domain_names name) _ others in
    record {
      states_once = old.states_once;
      actions_once = old.actions_once;
      stations_once = old.stations_once;
      classes_once = old.classes_once;
      operators_once = old.operators_once;
      domains_once = old.domains_once;
      devices_once = once-push h.device_names name old.devices_once no_device;
      operators_and_domains = old.operators_and_domains;
      operators_and_devices = apart-right h.operator_names h.device_names name old.operators_and_devices no_operator;
      domains_and_devices = apart-right h.domain_names h.device_names name old.domains_and_devices no_domain;
    })))))

named-declaration : (h : Hierarchy) (d : Declaration) → IsNamed h → Always IsNamed (with_declaration h d)
named-declaration h (declares.Tree n) old = old
named-declaration h (declares.State name) old = named-state h name old
named-declaration h (declares.Action name) old = named-action h name old
named-declaration h (declares.Station name address) old = named-station h name address old
named-declaration h (declares.Operator name station) old = named-operator h name station old
named-declaration h (declares.Class which name first) old = named-class h which name first old
named-declaration h (declares.Move class from action to) old = named-move h class from action to old
named-declaration h (declares.Accept class action) old = named-accepted h class action old
named-declaration h (declares.Rule which class state target) old = named-rule h which class state target old
named-declaration h (declares.Domain name station class parent) old = named-domain h name station class parent old
named-declaration h (declares.Device name domain class) old = named-device h name domain class old

named-words : (h : Hierarchy) (k : Keyword) (ws : List (List ℕ)) → IsNamed h → Always IsNamed (with_words_of h k ws)
named-words h k ws old = Always-then IsNamed (declaration_of k ws) (with_declaration h)
    (λ d is. named-declaration h d old)

named-line-words : (h : Hierarchy) (ws : List (List ℕ)) → IsNamed h → Always IsNamed (with_words h ws)
unfolding with_words
named-line-words h [] old = old
named-line-words h (word ∷ more) old = Always-or IsNamed (is_comment word) h _ old
    (Always-unless IsNamed (is_out_of_place h word) faults.TreeLine _ (λ placed.
    Always-then IsNamed (ok_or (keyword_of word) faults.UnknownWord) _ (λ k is. named-words h k more old)))

pub named-line : (h : Hierarchy) (line : List ℕ) → IsNamed h → Always IsNamed (with_line h line)
unfolding with_line
named-line h line old = Always-unless IsNamed (nat_lt MOST_BYTES_OF_A_LINE (length line)) faults.LineTooLong _
    (λ short. named-line-words h (words line) old)

pub named-undeclared : IsNamed undeclared
named-undeclared = record {
  states_once = λ n name at. absurd (no-entry n name at);
  actions_once = λ n name at. absurd (no-entry n name at);
  stations_once = λ n name at. absurd (no-entry n name at);
  classes_once = λ n name at. absurd (no-entry n name at);
  operators_once = λ n name at. absurd (no-entry n name at);
  domains_once = λ n name at. absurd (no-entry n name at);
  devices_once = λ n name at. absurd (no-entry n name at);
  operators_and_domains = λ name there. refl;
  operators_and_devices = λ name there. refl;
  domains_and_devices = λ name there. refl;
}
