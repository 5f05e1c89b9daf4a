-- An entry changes in its place, and all orders in work stay.
use Rattle.std.proofs.Common.{◌≡◌, ℕ, ◌<◌, ◌≤◌, List, ◌++◌, length, get_or, map, take, refl, ap, ◌∙◌, arith}
use Rattle.std.proofs.Math.ListN.{set, drop_of_length-le}
use Rattle.std.proofs.Math.Seq.{map-set_same}
use Rattle.std.proofs.lemmas.List.{append-nil, append_assoc, map-append, take_all, length-set}
use Rattle.std.proofs.lemmas.Option.{slice_get-get_or}
use Rattle.std.specs.List.{refill}
use Rattle.smi_protocol.specs.declared.order.Order.{Order}
use Rattle.smi_protocol.specs.declared.order.Order.TheVariants as order
use Rattle.smi_protocol.specs.declared.order.Told.{Told}
use Rattle.smi_operator.specs.declared.work.WorkSlot.{WorkSlot}
use Rattle.smi_operator.specs.Working.{begun, changed_at, handed_out, still_in_work, order_in, order_told}
use Rattle.smi_operator.proofs.Fronts.{orders_stay, fewer_stay}

-- a slice of all items, written back, is all items
refilled : (xs ws : List WorkSlot) → length ws ≡ length xs → refill (length xs) xs ws ≡ ws
refilled xs ws same =
    ap (λ rest. take (length xs) (ws ++ rest)) (drop_of_length-le xs (omega (arith, same)))
    ∙ ap (λ all. take (length xs) all) (append-nil ws)
    ∙ take_all (length xs) ws (omega (arith, same))

-- what is at a place without an entry
nobody : WorkSlot
nobody = begun (order.Ask 0)

changed_is : (f : WorkSlot → WorkSlot) (i : ℕ) (xs : List WorkSlot) → i < length xs
    → changed_at f i xs ≡ set xs i (f (get_or xs i nobody))
changed_is f i xs within = rw (slice_get-get_or xs i nobody within) refl

changed_length : (f : WorkSlot → WorkSlot) (i : ℕ) (xs : List WorkSlot) → i < length xs
    → length (changed_at f i xs) ≡ length xs
changed_length f i xs within = ap length (changed_is f i xs within) ∙ length-set xs i (f (get_or xs i nobody))

-- the items after a change through a slice: as many, and with the same orders
written : (f : WorkSlot → WorkSlot) (i : ℕ) (xs ws : List WorkSlot) → i < length xs → ws ≡ changed_at f i xs
    → refill (length xs) xs ws ≡ changed_at f i xs
written f i xs ws within is = refilled xs ws (ap length is ∙ changed_length f i xs within) ∙ is

pub written_length : (f : WorkSlot → WorkSlot) (i : ℕ) (xs ws : List WorkSlot) → i < length xs → ws ≡ changed_at f i xs
    → length (refill (length xs) xs ws) ≡ length xs
written_length f i xs ws within is = ap length (written f i xs ws within is) ∙ changed_length f i xs within

pub written_orders : (f : WorkSlot → WorkSlot) (i : ℕ) (xs ws : List WorkSlot) → i < length xs → ws ≡ changed_at f i xs
    → ((e : WorkSlot) → order_in (f e) ≡ order_in e) → map order_in (refill (length xs) xs ws) ≡ map order_in xs
written_orders f i xs ws within is same =
    ap (map order_in) (written f i xs ws within is ∙ changed_is f i xs within)
    ∙ map-set_same order_in xs i (f (get_or xs i nobody)) nobody (same (get_or xs i nobody))

-- what was answered and what stays are still all that was given
pub answered_in_order : (told new_told : List Told) (xs ws stay : List WorkSlot) (orders : List Order)
    → map order_told told ++ map order_in xs ≡ orders → map order_in ws ≡ map order_in xs
    → new_told ≡ told ++ handed_out ws → stay ≡ still_in_work ws
    → map order_told new_told ++ map order_in stay ≡ orders
answered_in_order told new_told xs ws stay orders all same handed stays =
    rw (
      handed,
      stays,
      map-append order_told told (handed_out ws),
      append_assoc (map order_told told) (map order_told (handed_out ws)) (map order_in (still_in_work ws)),
      orders_stay ws,
      same,
    ) all

-- and no more stay than there were
pub answered_few : (xs ws stay : List WorkSlot) (most : ℕ) → length xs ≤ most → length ws ≡ length xs
    → stay ≡ still_in_work ws → length stay ≤ most
answered_few xs ws stay most few same stays = rw stays (omega (arith, few, same, fewer_stay ws))
