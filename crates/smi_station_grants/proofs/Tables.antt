-- What a write at a number makes of a table.
use Rattle.std.proofs.Common.{◌≡◌, ℕ, ◌-◌, ◌≤◌, Bool, true, false, List, [], length, refl, ap, arith}
use Rattle.std.proofs.Math.ListN.{set}
use Rattle.std.specs.Prelude.{◌==◌, ◌&&◌, if◌then◌else◌}
use Rattle.smi_tree.specs.Hierarchy.{Hierarchy, entry}
use Rattle.smi_tree.specs.Lawful.{IsTree, IsBetween}
use Rattle.smi_tree.specs.Lookups.{operator_count, operator_station_of}
use Rattle.smi_tree.specs.Roles.{is_number}
use Rattle.std.proofs.lemmas.Bool.{eqb-true}
use mathlib.Core.Path.{fun_ext}
use Rattle.smi_grant.specs.declared.Holder.{Holder}
use Rattle.smi_grant.specs.declared.Holder.TheVariants.{Free, Operator, Domain}
use Rattle.smi_grant.specs.Record.{Standing, fresh}
use Rattle.smi_command.specs.declared.Link.{Link}
use Rattle.smi_command.specs.declared.Link.TheVariants.{Out}
use Rattle.smi_protocol.specs.Grants.{put_link, with_record, with_gathered, with_link}
use Rattle.smi_station_grants.specs.GrantTable.{Kept, link_in, grants_of}
use Rattle.smi_station_grants.specs.Entries.{entry_or}
use Rattle.smi_station_grants.proofs.Writes.{entry_set, table_set, in_list}

-- another record of a domain
pub record_put : (k : Kept) (d : ℕ) (r : Standing) → 1 ≤ d → d ≤ length k.records
    → grants_of (record k { records = set k.records (d - 1) r }) ≡ with_record (grants_of k) d r
record_put k d r least most =
    ap (λ (t : ℕ → Standing). record (grants_of k) { records = t }) (table_set k.records d r fresh least most)

-- another gathered code of a domain
pub gathered_put : (k : Kept) (d code : ℕ) → 1 ≤ d → d ≤ length k.gathered
    → grants_of (record k { gathered = set k.gathered (d - 1) code }) ≡ with_gathered (grants_of k) d code
gathered_put k d code least most =
    ap (λ (t : ℕ → ℕ). record (grants_of k) { gathered = t }) (table_set k.gathered d code 0 least most)

-- another link of an operator to a domain
pub operator_put : (k : Kept) (o d : ℕ) (l : Link) → 1 ≤ o → o ≤ length k.operator_links → 1 ≤ d
    → d ≤ length (entry_or k.operator_links o [])
    → grants_of (record k {
      operator_links = set k.operator_links (o - 1)
          (set (entry_or k.operator_links o []) (d - 1) l);
    })
    ≡ with_link (grants_of k) (Operator o) d l
operator_put k o d l o_least o_most least most =
    ap (λ (t : Holder → ℕ → Link). record (grants_of k) { links = t }) (fun_ext (λ who. fun_ext (λ x. at who x)))
  where
    other_kind : (x : ℕ) (a : Link) → a ≡ (if x == d && false then l else a)
    other_kind x a = elim (x == d) as (λ b. a ≡ (if b && false then l else a)) [ true ↦ refl | false ↦ refl ]

    at_operator : (p x : ℕ) (own : Bool) → (p == o) ≡ own
        → entry_or (if own then set (entry_or k.operator_links o []) (d - 1) l else entry_or k.operator_links p []) x
        (Out 0)
        ≡ (if x == d && own then l else entry_or (entry_or k.operator_links p []) x (Out 0))
    at_operator p x true is =
        let same : p ≡ o = eqb-true p o is in
        rw (same, entry_set (entry_or k.operator_links o []) d x l (Out 0) least most)
        (elim (x == d) as (λ b. (if b then l else entry_or (entry_or k.operator_links o []) x (Out 0))
        ≡ (if b && true then l else entry_or (entry_or k.operator_links o []) x (Out 0)))
        [ true ↦ refl | false ↦ refl ])
    at_operator p x false is = other_kind x (entry_or (entry_or k.operator_links p []) x (Out 0))

    at : (who : Holder) (x : ℕ)
        → link_in (record k {
          operator_links = set k.operator_links (o - 1)
              (set (entry_or k.operator_links o []) (d - 1) l);
        }) who x
        ≡ put_link (link_in k) (Operator o) d l who x
    at Free x = other_kind x (Out 0)
    at (Domain p) x = other_kind x (link_in k (Domain p) x)
    at (Operator p) x =
        rw (entry_set k.operator_links o p (set (entry_or k.operator_links o []) (d - 1) l) [] o_least o_most)
        (at_operator p x (p == o) refl)

-- an operator at a station is one of the tree's
pub operator_there : (h : Hierarchy) (o station : ℕ) → IsTree h → is_number (operator_station_of h o) station ≡ true
    → IsBetween 1 (operator_count h) o
operator_there h o station tree at =
    let in_homes : IsBetween 1 (length h.homes) o = in_list (λ m. m == station) h.homes o (entry h.homes o) refl at in
    record { least = in_homes.least; most = omega (arith, in_homes.most, tree.lawful.operators.rows) }

length_either : {X : Type 0} (here : Bool) (n : ℕ) (xs ys : List X) → (here ≡ true → length xs ≡ n) → length ys ≡ n
    → length (if here then xs else ys) ≡ n
length_either true n xs ys a b = a refl
length_either false n xs ys a b = b

-- the tables of the station's operators keep their lengths
pub served_put : {X : Type 0} (table : List (List X)) (o n m : ℕ) (new : List X) → 1 ≤ o → o ≤ length table
    → length new ≡ n → length (entry_or table m []) ≡ n → length (entry_or (set table (o - 1) new) m []) ≡ n
served_put table o n m new least most long old =
    rw (entry_set table o m new [] least most) (length_either (m == o) n new (entry_or table m []) (λ _. long) old)
