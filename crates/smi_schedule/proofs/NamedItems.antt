-- What a line of a schedule lets happen, and what a word picks, names what the tree has.
use Rattle.std.proofs.Common.{ℕ, zero, suc, ◌≡◌, ◌≤◌, ◌<◌, ◌+◌, ◌/◌, ◌%◌, Bool, true, false, List, [], ◌∷◌, length}
use Rattle.std.proofs.Common.{Option, Some, None, Result, Ok, Err, IfOk, refl, sym, ap, ◌∙◌, subst, arith}
use Rattle.std.specs.Prelude.{◌==◌, ◌&&◌, nat_lt, if◌then◌else◌, ok_or}
use Rattle.std.proofs.lemmas.Bool.{and_from}
use Rattle.std.proofs.lemmas.Bool.Decides.{nat_tests}
use Rattle.smi_base.specs.declared.trees.TheConstants.{MOST_BYTES_OF_A_LINE}
use Rattle.smi_base.specs.Between.{is_between}
use Rattle.smi_tree.specs.Fault.{◌>>=◌}
use Rattle.smi_tree.specs.Name.{number_of}
use Rattle.smi_tree.specs.Hierarchy.{Hierarchy}
use Rattle.smi_tree.specs.Lawful.{IsBetween, IsTree}
use Rattle.smi_tree.specs.Lookups.{action_count, device_count, domain_count, operator_count, state_count}
use Rattle.smi_tree.specs.Lookups.{station_count}
use Rattle.smi_tree.specs.Text.{words}
use Rattle.smi_tree.specs.File.{is_comment}
use Rattle.smi_tree.specs.declared.fault.Fault.{Fault}
use Rattle.smi_tree.specs.declared.fault.Fault.TheVariants.{LineTooLong, UnknownName, UnknownWord}
use Rattle.smi_tree.proofs.Lawfulness.{number_of-between}
use Rattle.smi_protocol.proofs.Ranges.{between}
use Rattle.smi_protocol.specs.declared.order.Order.{Order}
use Rattle.smi_protocol.specs.declared.item.Deed.{Deed}
use Rattle.smi_protocol.specs.declared.item.Deed.TheVariants as deed
use Rattle.smi_protocol.specs.declared.item.Item.{Item}
use Rattle.smi_schedule.specs.Known as known
use Rattle.smi_schedule.specs.Line.{item_by, item_in}
use Rattle.smi_schedule.specs.Said.{said_of}
use Rattle.smi_schedule.specs.Words.{line_word}
use Rattle.smi_schedule.specs.Drawn as drawn
use Rattle.smi_schedule.specs.declared.said.SaidOrder.{SaidOrder}
use Rattle.smi_schedule.specs.declared.said.SaidOrder.TheVariants as said_order
use Rattle.smi_schedule.specs.declared.said.SaidDeed.{SaidDeed}
use Rattle.smi_schedule.specs.declared.said.SaidDeed.TheVariants as said_deed
use Rattle.smi_schedule.specs.declared.said.Said.{Said}
use Rattle.smi_schedule.specs.declared.said.Said.TheVariants as said
use Rattle.smi_schedule.specs.Naming.{has_deed, has_device, has_item, has_operator, has_order, has_station}

within : (names : List (List ℕ)) (name : List ℕ) (n : ℕ) → ok_or (number_of names name) UnknownName ≡ Ok n
    → is_between 1 (length names) n ≡ true
within names name n is = by (number_of names name) refl is
  where
    by : (o : Option ℕ) → number_of names name ≡ o → ok_or o UnknownName ≡ Ok n → is_between 1 (length names) n ≡ true
    by None found is = absurd cc
    by (Some m) found is =
        let same : m ≡ n = cc in
        let range = number_of-between names name n (found ∙ ap Some same) in
        between 1 (length names) n range.least range.most

module _ (h : Hierarchy) where
  abbrev Orders : Result Order Fault → Type 0
  Orders (Ok x) = has_order h x ≡ true
  Orders (Err fault) = Unit {0}

  abbrev Deeds : Result Deed Fault → Type 0
  Deeds (Ok x) = has_deed h x ≡ true
  Deeds (Err fault) = Unit {0}

  abbrev Named : Result Item Fault → Type 0
  Named (Ok x) = has_item h x ≡ true
  Named (Err fault) = Unit {0}

  abbrev Items : Result (Option Item) Fault → Type 0
  Items (Ok (Some x)) = has_item h x ≡ true
  Items (Ok None) = Unit {0}
  Items (Err fault) = Unit {0}

  -- what holds of all that a step of reading may give
  then_orders : {X : Type 0} (r : Result X Fault) (f : X → Result Order Fault) → ((x : X) → r ≡ Ok x → Orders (f x))
      → Orders (r >>= f)
  then_orders (Ok x) f holds = holds x refl
  then_orders (Err fault) f holds = tt

  then_deeds : {X : Type 0} (r : Result X Fault) (f : X → Result Deed Fault) → ((x : X) → r ≡ Ok x → Deeds (f x))
      → Deeds (r >>= f)
  then_deeds (Ok x) f holds = holds x refl
  then_deeds (Err fault) f holds = tt

  then_named : {X : Type 0} (r : Result X Fault) (f : X → Result Item Fault) → ((x : X) → r ≡ Ok x → Named (f x))
      → Named (r >>= f)
  then_named (Ok x) f holds = holds x refl
  then_named (Err fault) f holds = tt

  then_items : {X : Type 0} (r : Result X Fault) (f : X → Result (Option Item) Fault)
      → ((x : X) → r ≡ Ok x → Items (f x)) → Items (r >>= f)
  then_items (Ok x) f holds = holds x refl
  then_items (Err fault) f holds = tt

  order_named : (x : SaidOrder) → Orders (known.order_known h x)
  unfolding known.order_known
  order_named (said_order.Take d) = then_orders (known.domain h d) _ (λ n is. refl)
  order_named (said_order.Drop d) = then_orders (known.domain h d) _ (λ n is. refl)
  order_named (said_order.Ask d) = then_orders (known.domain h d) _ (λ n is. refl)
  order_named (said_order.Do d a) = then_orders (known.domain h d) _
      (λ n is. then_orders (known.action h a) _ (λ m at. refl))
  order_named (said_order.Include d t) = then_orders (known.domains h d t) _ (λ n is. refl)
  order_named (said_order.Exclude d t) = then_orders (known.domains h d t) _ (λ n is. refl)
  order_named (said_order.Manual d t) = then_orders (known.domains h d t) _ (λ n is. refl)
  order_named (said_order.Ignore d t) = then_orders (known.domains h d t) _ (λ n is. refl)
  order_named (said_order.Watch x) = then_orders (known.object h x) _ (λ n is. refl)
  order_named (said_order.Unwatch x) = then_orders (known.object h x) _ (λ n is. refl)

  order_ok : (x : SaidOrder) (o : Order) → known.order_known h x ≡ Ok o → has_order h o ≡ true
  order_ok x o is = subst (λ r. Orders r) is (order_named x)

  deed_named : (x : SaidDeed) → Deeds (known.deed_known h x)
  unfolding known.deed_known
  deed_named (said_deed.Deliver k) = refl
  deed_named (said_deed.Recent j) = refl
  deed_named (said_deed.Order o x) =
      then_deeds (known.operator h o) _ (λ n is. then_deeds (known.order_known h x) _
      (λ what at. and_from _ _ (within h.operator_names o n is) (order_ok x what at)))
  deed_named (said_deed.Report d s) = then_deeds (known.device h d) _
      (λ n is. then_deeds (known.state h s) _ (λ m at. within h.device_names d n is))
  deed_named (said_deed.Tick s) = then_deeds (known.station h s) _ (λ n is. within h.station_names s n is)

  deed_ok : (x : SaidDeed) (d : Deed) → known.deed_known h x ≡ Ok d → has_deed h d ≡ true
  deed_ok x d is = subst (λ r. Deeds r) is (deed_named x)

  item_named : (x : Said) → Named (known.known h x)
  unfolding known.known
  item_named (said.Do x) = then_named (known.deed_known h x) _ (λ d is. deed_ok x d is)
  item_named (said.Restart s) = then_named (known.station h s) _ (λ n is. within h.station_names s n is)
  item_named (said.Stop s when x) = then_named (known.station h s) _
      (λ n is. then_named (known.deed_known h x) _
      (λ d at. and_from _ _ (within h.station_names s n is) (deed_ok x d at)))
  item_named (said.Fail s how x) = then_named (known.station h s) _
      (λ n is. then_named (known.deed_known h x) _
      (λ d at. and_from _ _ (within h.station_names s n is) (deed_ok x d at)))

  words_named : (ws : List (List ℕ)) → Items (item_by h ws)
  words_named [] = tt
  words_named (word ∷ more) = by (is_comment word)
    where
      by : (b : Bool)
          → Items (if b then Ok None
          else (ok_or (line_word word) UnknownWord >>=
          (λ which. said_of which more >>= (λ x. known.known h x >>= (λ i. Ok (Some i))))))
      by true = tt
      by false =
          then_items (ok_or (line_word word) UnknownWord) _ (λ which found. then_items (said_of which more) _ (λ x says.
          then_items (known.known h x) (λ i. Ok (Some i)) (λ i is. subst (λ r. Named r) is (item_named x))))

  line_named : (line : List ℕ) → Items (item_in h line)
  unfolding item_in
  line_named line = by (nat_lt MOST_BYTES_OF_A_LINE (length line))
    where
      by : (b : Bool) → Items (if b then Err LineTooLong else item_by h (words line))
      by true = tt
      by false = words_named (words line)

  -- an item that a line is names what the tree has
  pub read_named : (line : List ℕ) (x : Item) → item_in h line ≡ Ok (Some x) → has_item h x ≡ true
  read_named line x is = subst Items is (line_named line)

  -- Drawn items.

  picked : (part count : ℕ) → 1 ≤ count → is_between 1 count (drawn.pick part count) ≡ true
  picked part count some =
      let below : part % count < count = omega (arith, some) in
      between 1 count (drawn.pick part count) (omega arith) (omega (arith, below))

  either_order : (b : Bool) (x y : Order) → has_order h x ≡ true → has_order h y ≡ true
      → has_order h (if b then x else y) ≡ true
  either_order true x y one other = one
  either_order false x y one other = other

  order_drawn : (which d a t : ℕ) → has_order h (drawn.order_by which d a t) ≡ true
  order_drawn which d a t =
      either_order (which == 0) _ _ refl
      (either_order (which == 1) _ _ refl
      (either_order (nat_lt which 4) _ _ refl
      (either_order (which == 4) _ _ refl
      (either_order (which == 5) _ _ refl
      (either_order (which == 6) _ _ refl refl)))))

  either_item : (b : Bool) (x y : Item) → has_item h x ≡ true → has_item h y ≡ true
      → has_item h (if b then x else y) ≡ true
  either_item true x y one other = one
  either_item false x y one other = other

  report_drawn : IsTree h → (word : ℕ) → has_deed h (drawn.report_of h word) ≡ true
  report_drawn tree word = by (device_count h == 0) refl
    where
      some : (n : ℕ) → (n == 0) ≡ false → 1 ≤ n
      some n is = grind (arith, nat_tests, is)

      by : (b : Bool) → (device_count h == 0) ≡ b
          → has_deed h (if b then deed.Tick 1 else deed.Report (drawn.pick (word / 16) (device_count h))
          (drawn.pick (word / 8192) (state_count h))) ≡ true
      by true is = between 1 (station_count h) 1 (omega arith) tree.stations
      by false is = picked (word / 16) (device_count h) (some (device_count h) is)

  -- an item that a word picks names what the tree has
  pub drawn_named : IsTree h → (word : ℕ) → has_item h (drawn.item_of h word) ≡ true
  drawn_named tree word =
      let which = word % 16 in
      let rest = word / 16 in
      either_item (nat_lt which 8) _ _ refl
      (either_item (which == 8) _ _ refl
      (either_item (nat_lt which 11) _ _ (picked rest (station_count h) tree.stations)
      (either_item (which == 11) _ _ (report_drawn tree word)
      (either_item (nat_lt which 15) _ _
      (and_from _ _ (picked rest (operator_count h) tree.operators)
      (order_drawn (word / 512 % 8) (drawn.pick (word / 4096) (domain_count h))
      (drawn.pick (word / 524288) (action_count h)) (drawn.pick (word / 524288) (domain_count h))))
      (picked rest (station_count h) tree.stations)))))
