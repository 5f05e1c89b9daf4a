-- The rows of a station whose grants are sound read back.
use Rattle.std.proofs.Common.{ℕ, zero, suc, ◌≡◌, ◌≤◌, ◌<◌, ◌+◌, Bool, true, false, List, [], ◌∷◌, length, inl, inr}
use Rattle.std.proofs.Common.{Option, Some, None, refl, sym, ap, ◌∙◌, subst, arith}
use Rattle.std.specs.Prelude.{◌==◌, ◌&&◌, ◌||◌, ◌%◌, nat_le, nat_lt, not, if◌then◌else◌}
use Rattle.std.specs.List.{AllByRecursion, cons_option, filter_map, list_all, list_any, range_with_len}
use Rattle.std.proofs.lemmas.Bool.{and_from}
use Rattle.std.proofs.lemmas.Bool.Decides.{nat_tests}
use Rattle.smi_base.specs.declared.trees.TheConstants.{MOST_DOMAINS}
use Rattle.smi_base.specs.declared.numbers.TheConstants.{MOST_LINKS}
use Rattle.smi_grant.specs.declared.Command.{Command}
use Rattle.smi_grant.specs.declared.Command.TheVariants.{Do, Include, Exclude, Manual, Ignore}
use Rattle.smi_grant.specs.declared.Holder.TheVariants.{Operator, Domain}
use Rattle.smi_grant.specs.declared.Phase.{Phase}
use Rattle.smi_grant.specs.declared.Phase.TheVariants.{Settled, Busy}
use Rattle.smi_grant.specs.Command.{verb_of}
use Rattle.smi_grant.specs.Record.{is_settled, last_epoch, last_number}
use Rattle.smi_tree.specs.Hierarchy.{Hierarchy}
use Rattle.smi_tree.specs.Lawful.{IsTree}
use Rattle.smi_tree.specs.Lookups.{children_of, domain_count, numbers_from, operator_station_of}
use Rattle.smi_command.specs.declared.Link.{Link}
use Rattle.smi_command.specs.declared.Link.TheVariants.{Out, Taking, Held, Dropping}
use Rattle.smi_command.specs.Pending.{most_pending}
use Rattle.smi_rows.specs.declared.Mode.{Mode}
use Rattle.smi_rows.specs.declared.Mode.TheVariants as mode
use Rattle.smi_rows.specs.declared.RowKind.TheVariants as kind
use Rattle.smi_rows.specs.declared.Schema.{Schema}
use Rattle.smi_rows.specs.declared.StoredLink.{StoredLink}
use Rattle.smi_rows.specs.Known.{are_commands_of, is_child_link, is_tree_link}
use Rattle.smi_tree.specs.Roles.{is_command_of, is_number, is_parent, is_keeper}
use Rattle.smi_rows.specs.Ranges.{each_command_in, is_grant_in, is_link_in, is_mode_in}
use Rattle.smi_base.specs.Between.{is_between}
use Rattle.smi_command.specs.Link.{is_held, is_out, is_unsettled}
use Rattle.smi_rows.specs.Ranges.{is_work_in, rises_above}
use Rattle.smi_rows.specs.Schema.{last_verb, most_pending_in}
use Rattle.smi_rows.specs.Written.{IsRow}
use Rattle.smi_protocol.specs.Grants.{Grants}
use Rattle.smi_protocol.specs.GrantStep.{OfDomain, OfOperator}
use Rattle.smi_protocol.specs.SavedRows.{child_links, domain_row, is_new, operator_row, saved_row, stored_if}
use Rattle.smi_protocol.specs.Sound.{ArePending, In, IsCommand, IsLink, IsSound, most_handed_on}
use Rattle.smi_protocol.proofs.Counts.{count_chosen}
use Rattle.smi_protocol.proofs.Lists.{from_range}
use Rattle.smi_protocol.proofs.Ranges.{between, child_there, kept_there, number_within}
use Rattle.smi_protocol.proofs.Tables.{number_is, parent_is}

-- the newest schemas
abbrev of_domains : Schema
of_domains = record { kind = kind.Domain; number = 2 }

abbrev of_operators : Schema
of_operators = record { kind = kind.Operator; number = 3 }

-- Lists of stored links.

all_chosen : (f : ℕ → Option StoredLink) (p : StoredLink → Bool) (xs : List ℕ)
    → ((x : ℕ) (y : StoredLink) → In x xs → f x ≡ Some y → p y ≡ true) → list_all p (filter_map f xs) ≡ true
all_chosen f p [] each = refl
all_chosen f p (x ∷ xs) each = by (f x) refl (all_chosen f p xs (λ z y a. each z y (inr a)))
  where
    by : (o : Option StoredLink) → f x ≡ o → list_all p (filter_map f xs) ≡ true
        → list_all p (cons_option o (filter_map f xs)) ≡ true
    by None is rest = rest
    by (Some y) is rest = and_from _ _ (each x y (inl refl) is) rest

lower : (low high : ℕ) → low < high → nat_lt low high ≡ true
lower low high less = grind (arith, nat_tests)

numbers_rise : {X : Type 0} (f : ℕ → Option StoredLink) → ((x : ℕ) (y : StoredLink) → f x ≡ Some y → y.domain ≡ x)
    → (test : X → Bool) (rows : List X) (k low : ℕ) → low < k
    → rises_above low (filter_map f (numbers_from test k rows)) ≡ true
numbers_rise f named test [] k low less = refl
numbers_rise f named test (row ∷ rows) k low less =
    by (test row) (f k) refl (numbers_rise f named test rows (k + 1) low (omega arith))
    (numbers_rise f named test rows (k + 1) k (omega arith))
  where
    chosen : (o : Option StoredLink) → f k ≡ o
        → rises_above low (filter_map f (numbers_from test (k + 1) rows)) ≡ true
        → rises_above k (filter_map f (numbers_from test (k + 1) rows)) ≡ true
        → rises_above low (cons_option o (filter_map f (numbers_from test (k + 1) rows))) ≡ true
    chosen None is wide narrow = wide
    chosen (Some y) is wide narrow =
        let same : y.domain ≡ k = named k y is in
        and_from _ _ (lower low y.domain (omega (arith, same, less)))
        (subst (λ z. rises_above z (filter_map f (numbers_from test (k + 1) rows)) ≡ true) (sym same) narrow)

    by : (b : Bool) (o : Option StoredLink) → f k ≡ o
        → rises_above low (filter_map f (numbers_from test (k + 1) rows)) ≡ true
        → rises_above k (filter_map f (numbers_from test (k + 1) rows)) ≡ true
        → rises_above low
        (filter_map f (if b then k ∷ numbers_from test (k + 1) rows else numbers_from test (k + 1) rows)) ≡ true
    by true o is wide narrow =
        subst (λ z. rises_above low (cons_option z (filter_map f (numbers_from test (k + 1) rows))) ≡ true) (sym is)
        (chosen o is wide narrow)
    by false o is wide narrow = wide

range_rises : (f : ℕ → Option StoredLink) → ((x : ℕ) (y : StoredLink) → f x ≡ Some y → y.domain ≡ x) → (k n low : ℕ)
    → low < k → rises_above low (filter_map f (range_with_len k n)) ≡ true
range_rises f named k zero low less = refl
range_rises f named k (suc n) low less = chosen (f k) refl (range_rises f named (k + 1) n low (omega arith))
    (range_rises f named (k + 1) n k (omega arith))
  where
    chosen : (o : Option StoredLink) → f k ≡ o → rises_above low (filter_map f (range_with_len (k + 1) n)) ≡ true
        → rises_above k (filter_map f (range_with_len (k + 1) n)) ≡ true
        → rises_above low (cons_option o (filter_map f (range_with_len (k + 1) n))) ≡ true
    chosen None is wide narrow = wide
    chosen (Some y) is wide narrow =
        let same : y.domain ≡ k = named k y is in
        and_from _ _ (lower low y.domain (omega (arith, same, less)))
        (subst (λ z. rises_above z (filter_map f (range_with_len (k + 1) n)) ≡ true) (sym same) narrow)

-- One link.

-- what a stored link is
record IsStoredAs (d : ℕ) (l : Link) (m : Mode) (y : StoredLink) : Type 0 where
  pub domain : y.domain ≡ d
  pub link : y.link ≡ l
  pub mode : y.mode ≡ m
  pub heard : is_new l ≡ false

stored_as : (d : ℕ) (l : Link) (m : Mode) (y : StoredLink) → stored_if d l m ≡ Some y → IsStoredAs d l m y
stored_as d l m y is = by (is_new l) refl is
  where
    by : (b : Bool) → is_new l ≡ b → (if b then None else Some (record { domain = d; link = l; mode = m })) ≡ Some y
        → IsStoredAs d l m y
    by true n i = absurd cc
    by false n i =
        let same : record { domain = d; link = l; mode = m } ≡ y = cc in
        record {
          domain = ap (λ (z : StoredLink). z.domain) (sym same);
          link = ap (λ (z : StoredLink). z.link) (sym same);
          mode = ap (λ (z : StoredLink). z.mode) (sym same);
          heard = n;
        }

verb_in : (c : Command) → nat_le (verb_of c) 5 ≡ true
verb_in (Do a) = refl
verb_in (Include t) = refl
verb_in (Exclude t) = refl
verb_in (Manual t) = refl
verb_in (Ignore t) = refl

commands_in : (h : Hierarchy) (s : Schema) → last_verb s ≡ 5 → (p : List Command) → AllByRecursion (IsCommand h) p
    → (each_command_in s p ≡ true) × (list_all (is_command_of h) p ≡ true)
commands_in h s five [] all = (refl, refl)
commands_in h s five (c ∷ p) all =
    let rest = commands_in h s five p all.1 in
    let command : IsCommand h c = all.0 in (
      and_from _ _ (and_from _ _ command.range (subst (λ n. nat_le (verb_of c) n ≡ true) (sym five) (verb_in c)))
          rest.0,
      and_from _ _ command.known rest.1,
    )

at_most : (n m : ℕ) → n ≤ m → nat_le n m ≡ true
at_most n m less = grind (arith, nat_tests)

odd_test : (e : ℕ) → e ≤ last_epoch → e % 2 ≡ 1 → (nat_le e last_epoch && e % 2 == 1) ≡ true
odd_test e most odd = and_from _ _ (at_most e last_epoch most) (same (e % 2) odd)
  where
    same : (n : ℕ) → n ≡ 1 → (n == 1) ≡ true
    same n is = grind (arith, nat_tests)

-- a sound link that was heard of is one that a row can say, and its commands are known
link_says : (h : Hierarchy) (s : Schema) (most : ℕ) → last_verb s ≡ 5 → most_pending_in s ≡ most → (l : Link)
    → IsLink h most l → is_new l ≡ false → (is_grant_in s l ≡ true) × (are_commands_of h l ≡ true)
link_says h s most five many (Out k) sound heard = (between 1 last_epoch k (some k heard) sound, refl)
  where
    some : (k : ℕ) → (k == 0) ≡ false → 1 ≤ k
    some k f = grind (arith, nat_tests)
link_says h s most five many (Taking e) sound heard = (at_most e last_epoch sound, refl)
link_says h s most five many (Held e n p) sound heard =
    let pending : ArePending h most n p = sound.1 in
    let c = commands_in h s five p pending.each in (
      and_from _ _ (odd_test e sound.0.0 sound.0.1)
          (and_from _ _ (at_most n last_number pending.newest)
          (and_from _ _ (at_most (length p) n pending.numbered)
          (and_from _ _ (subst (λ z. nat_le (length p) z ≡ true) (sym many) (at_most (length p) most pending.few))
          c.0))),
      c.1,
    )
link_says h s most five many (Dropping e) sound heard = (odd_test e sound.0 sound.1, refl)

-- a new link waits for nothing
new_still : (l : Link) → is_new l ≡ true → is_unsettled l ≡ false
new_still (Out k) new = refl
new_still (Taking s) new = absurd cc
new_still (Held e n p) new = absurd cc
new_still (Dropping e) new = absurd cc

-- the stored links wait where the links do
stored_wait : (l : ℕ → Link) (m : ℕ → Mode) (xs : List ℕ)
    → list_any (λ (x : StoredLink). is_unsettled x.link) (filter_map (λ x. stored_if x (l x) (m x)) xs)
    ≡ list_any (λ x. is_unsettled (l x)) xs
stored_wait l m [] = refl
stored_wait l m (x ∷ xs) = by (is_new (l x)) refl (stored_wait l m xs)
  where
    by : (b : Bool) → is_new (l x) ≡ b → list_any (λ (x : StoredLink). is_unsettled x.link)
        (filter_map (λ x. stored_if x (l x) (m x)) xs) ≡ list_any (λ x. is_unsettled (l x)) xs
        → list_any (λ (x : StoredLink). is_unsettled x.link)
        (cons_option (if b then None else Some (record { domain = x; link = l x; mode = m x }))
        (filter_map (λ x. stored_if x (l x) (m x)) xs))
        ≡ (is_unsettled (l x) || list_any (λ x. is_unsettled (l x)) xs)
    by true new rest = rest ∙ ap (λ b. b || list_any (λ x. is_unsettled (l x)) xs) (sym (new_still (l x) new))
    by false new rest = ap (λ b. is_unsettled (l x) || b) rest

-- Whole rows.

module _ (h : Hierarchy) (tree : IsTree h) (g : Grants) (sound : IsSound h g) where
  child_stored : ℕ → ℕ → Option StoredLink
  child_stored d x = stored_if x (g.links (Domain d) x) (g.modes x)

  child_fits : (d x : ℕ) (y : StoredLink) → In x (children_of h d)
      → stored_if x (g.links (Domain d) x) (g.modes x) ≡ Some y
      → (is_link_in of_domains y ≡ true) × (is_child_link h d y ≡ true)
  child_fits d x y a is =
      let s = stored_as x (g.links (Domain d) x) (g.modes x) y is in
      let parent = parent_is h d x a in
      let there = (child_there h tree x d parent).0 in
      let says = link_says h of_domains most_handed_on refl refl (g.links (Domain d) x) (sound.child d x) s.heard in (
        and_from _ _ (subst (λ z. is_between 1 MOST_DOMAINS z ≡ true) (sym s.domain)
            (between 1 MOST_DOMAINS x there.least (omega (arith, there.most, tree.lawful.domains.most))))
            (and_from _ _ (subst (λ z. is_grant_in of_domains z ≡ true) (sym s.link) says.0)
            (subst (λ z. is_mode_in of_domains z y.mode ≡ true) (sym s.link)
            (subst (λ z. is_mode_in of_domains (g.links (Domain d) x) z ≡ true) (sym s.mode)
            (mode_fits (g.modes x) (sound.mode d x parent))))),
        and_from _ _ (subst (λ z. is_parent h z d ≡ true) (sym s.domain) parent)
            (subst (λ z. are_commands_of h z ≡ true) (sym s.link) says.1),
      )
    where
      mode_fits : (m : Mode) → (is_held (g.links (Domain d) x) ≡ false → m ≡ mode.Included)
          → is_mode_in of_domains (g.links (Domain d) x) m ≡ true
      mode_fits mode.Included own = refl
      mode_fits mode.Manual own = held (is_held (g.links (Domain d) x)) own
        where
          held : (b : Bool) → (b ≡ false → mode.Manual ≡ mode.Included) → b ≡ true
          held true i = refl
          held false i = absurd (let wrong : mode.Manual ≡ mode.Included = i refl in cc)
      mode_fits mode.Ignored own = held (is_held (g.links (Domain d) x)) own
        where
          held : (b : Bool) → (b ≡ false → mode.Ignored ≡ mode.Included) → b ≡ true
          held true i = refl
          held false i = absurd (let wrong : mode.Ignored ≡ mode.Included = i refl in cc)

  work_fits : (d : ℕ) (p : Phase) → (g.records d).phase ≡ p → is_work_in p (g.gathered d) (child_links h g d) ≡ true
  work_fits d Settled is =
      let rest = sound.at_rest d (ap is_settled is) in
      and_from _ _ (rw rest.gathered refl) (ap not
      (stored_wait (λ x. g.links (Domain d) x) g.modes (children_of h d) ∙ rest.still))
  work_fits d Busy is =
      and_from _ _ (sound.gathered d) (stored_wait (λ x. g.links (Domain d) x) g.modes (children_of h d)
      ∙ sound.at_work d (ap is_settled is))

  -- the row of a domain
  pub domain_reads : (number d : ℕ) → is_keeper h number d ≡ true
      → IsRow h (saved_row h number g (OfDomain d)).key (saved_row h number g (OfDomain d)).bytes (domain_row h g d)
  domain_reads number d kept =
      let there = (kept_there h tree number d kept).0 in (
        (
          of_domains,
          record {
            kind = rw (positive d there.least) refl;
            schema = refl;
            range = and_from _ _ (sound.standing d) (and_from _ _ (work_fits d (g.records d).phase refl)
                (and_from _ _ (numbers_rise (λ x. stored_if x (g.links (Domain d) x) (g.modes x))
                (λ x y is. (stored_as x (g.links (Domain d) x) (g.modes x) y is).domain) _ h.domains 1 0
                (omega arith))
                (all_chosen (λ x. stored_if x (g.links (Domain d) x) (g.modes x)) (is_link_in of_domains)
                (children_of h d) (λ x y a is. (child_fits d x y a is).0))));
            bytes = refl;
          },
        ),
        and_from _ _ kept (and_from _ _ (sound.holder d)
            (all_chosen (λ x. stored_if x (g.links (Domain d) x) (g.modes x)) (is_child_link h d) (children_of h d)
            (λ x y a is. (child_fits d x y a is).1))),
      )
    where
      positive : (d : ℕ) → 1 ≤ d → (d == 0) ≡ false
      positive d least = grind (arith, nat_tests)

  own_fits : (o x : ℕ) (y : StoredLink) → In x (range_with_len 1 (domain_count h))
      → stored_if x (g.links (Operator o) x) mode.Included ≡ Some y
      → (is_link_in of_operators y ≡ true) × (is_tree_link h y ≡ true)
  own_fits o x y a is =
      let s = stored_as x (g.links (Operator o) x) mode.Included y is in
      let r = from_range x 1 (domain_count h) a in
      let least : 1 ≤ x = r.0 in
      let less : x < 1 + domain_count h = r.1 in
      let says = link_says h of_operators most_pending refl refl (g.links (Operator o) x) (sound.own o x) s.heard in (
        and_from _ _ (subst (λ z. is_between 1 MOST_DOMAINS z ≡ true) (sym s.domain)
            (between 1 MOST_DOMAINS x least (omega (arith, less, tree.lawful.domains.most))))
            (and_from _ _ (subst (λ z. is_grant_in of_operators z ≡ true) (sym s.link) says.0)
            (subst (λ z. is_mode_in of_operators y.link z ≡ true) (sym s.mode) refl)),
        and_from _ _ (subst (λ z. nat_le z (domain_count h) ≡ true) (sym s.domain)
            (at_most x (domain_count h) (omega (arith, less))))
            (subst (λ z. are_commands_of h z ≡ true) (sym s.link) says.1),
      )

  -- the row of an operator
  pub operator_reads : (number o : ℕ) → is_number (operator_station_of h o) number ≡ true
      → IsRow h (saved_row h number g (OfOperator o)).key (saved_row h number g (OfOperator o)).bytes
      (operator_row h g o)
  operator_reads number o served =
      let there = number_within h.homes o number (number_is (operator_station_of h o) number served) in
      let few = count_chosen (λ d. stored_if d (g.links (Operator o) d) mode.Included)
      (λ (x : StoredLink). not (is_out x.link)) (λ d. not (is_out (g.links (Operator o) d)))
      (range_with_len 1 (domain_count h))
      (λ x y is out. ap (λ l. not (is_out l)) (sym (stored_as x (g.links (Operator o) x) mode.Included y is).link)
      ∙ out) in
      let most = sound.few o in (
        (
          of_operators,
          record {
            kind = rw (positive o there.least) refl;
            schema = refl;
            range = and_from _ _
                (and_from _ _ (range_rises (λ d. stored_if d (g.links (Operator o) d) mode.Included)
                (λ x y is. (stored_as x (g.links (Operator o) x) mode.Included y is).domain) 1 (domain_count h) 0
                (omega arith))
                (all_chosen (λ d. stored_if d (g.links (Operator o) d) mode.Included) (is_link_in of_operators)
                (range_with_len 1 (domain_count h)) (λ x y a is. (own_fits o x y a is).0)))
                (at_most _ MOST_LINKS (omega (arith, few, most)));
            bytes = refl;
          },
        ),
        and_from _ _ served
            (all_chosen (λ d. stored_if d (g.links (Operator o) d) mode.Included) (is_tree_link h)
            (range_with_len 1 (domain_count h)) (λ x y a is. (own_fits o x y a is).1)),
      )
    where
      positive : (o : ℕ) → 1 ≤ o → (o == 0) ≡ false
      positive o least = grind (arith, nat_tests)
