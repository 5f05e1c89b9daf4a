-- Lists of items that lead somewhere, one after the other.
use Rattle.std.proofs.Common.{ℕ, ◌≡◌, ◌≢◌, ◌<◌, ◌≤◌, ◌+◌, Bool, true, false, List, [], ◌∷◌, ◌⊎◌, inl, inr, refl, sym}
use Rattle.std.proofs.Common.{subst, arith}
use Rattle.std.specs.Prelude.{◌++◌, length}
use Rattle.smi_message.specs.Message.{last_boot}
use Rattle.smi_publish.specs.Published.{last_sequence}
use Rattle.smi_tree.specs.Hierarchy.{Hierarchy}
use Rattle.smi_tree.specs.Lawful.{IsTree}
use Rattle.smi_protocol.specs.Display.{Station}
use Rattle.smi_protocol.specs.Schedule.{World, turn}
use Rattle.smi_protocol.specs.declared.Entry.{Entry}
use Rattle.smi_protocol.specs.declared.item.Item.{Item}
use Rattle.smi_law.specs.World.{Reaches}
use Rattle.smi_law.proofs.Bridge.{turned}
use Rattle.smi_law.specs.Rest.{HasChanges, Each, IsStation, led}

pub led_both : (h : Hierarchy) (w : World) (xs ys : List Item) → led h w (xs ++ ys) ≡ led h (led h w xs) ys
led_both h w [] ys = refl
led_both h w (x ∷ xs) ys = led_both h (turn h w x).world xs ys

pub each_both : (starts : Bool) (h : Hierarchy) (w : World) (xs ys : List Item) → Each starts h w xs
    → Each starts h (led h w xs) ys → Each starts h w (xs ++ ys)
each_both starts h w [] ys a b = b
each_both starts h w (x ∷ xs) ys a b = (a.0, each_both starts h (turn h w x).world xs ys a.1 b)

length_both : (xs ys : List Item) → length (xs ++ ys) ≡ length xs + length ys
length_both [] ys = omega arith
length_both (x ∷ xs) ys = let l = length_both xs ys in omega (arith, l)

-- a list of items, no longer than this, that leads to a world of which this holds
pub record Way (starts : Bool) (h : Hierarchy) (w : World) (most : ℕ) (P : World → Type 0) : Type 0 where
  pub items : List Item
  pub each : Each starts h w items
  pub short : length items ≤ most
  pub there : P (led h w items)

-- no item at all
pub stay : (starts : Bool) (h : Hierarchy) (w : World) (most : ℕ) (P : World → Type 0) → P w → Way starts h w most P
stay starts h w most P there = record { items = []; each = tt; short = omega arith; there = there }

-- and on from there
pub go_on : (starts : Bool) (h : Hierarchy) (w : World) (a b : ℕ) (P Q : World → Type 0) → Way starts h w a P
    → ((v : World) → P v → Way starts h v b Q) → Way starts h w (a + b) Q
go_on starts h w a b P Q way on =
    let more = on (led h w way.items) way.there in
    record {
      items = way.items ++ more.items;
      each = each_both starts h w way.items more.items way.each more.each;
      short = let both = length_both way.items more.items in let x = way.short in let y = more.short in
          omega (arith, both, x, y);
      there = subst Q (sym (led_both h w way.items more.items)) more.there;
    }

-- what holds there may be said otherwise
pub no_longer : (starts : Bool) (h : Hierarchy) (w : World) (a b : ℕ) (P Q : World → Type 0) → a ≤ b
    → ((v : World) → P v → Q v) → Way starts h w a P → Way starts h w b Q
no_longer starts h w a b P Q less turn way = record {
  items = way.items;
  each = way.each;
  short = let x = way.short in omega (arith, x, less);
  there = turn (led h w way.items) way.there;
}

-- What stations have left.

-- the station is in service, and will be for this many changes, or may be started again
pub record IsReady (starts : Bool) (n : ℕ) (s : Station) : Type 0 where
  pub runs : s.is_stopped ≡ false
  pub lasts : HasChanges n s.display.conditions ⊎ ((starts ≡ true) × (s.grants.boot ≢ last_boot))

-- a world that was reached, with all stations in service
pub record Fine (starts : Bool) (h : Hierarchy) (n : ℕ) (w : World) : Type 0 where
  pub small : n < last_sequence
  pub past : List Entry
  pub run : Reaches h past w
  pub ready : (number : ℕ) → IsStation h number → IsReady starts n (w.stations number)

-- wherever items lead from what was reached is reached
pub record Reached (h : Hierarchy) (w : World) : Type 0 where
  pub past : List Entry
  pub run : Reaches h past w

pub led_reached : (h : Hierarchy) → IsTree h → (items : List Item) (past : List Entry) (w : World) → Reaches h past w
    → Reached h (led h w items)
led_reached h tree [] past w run = record { past = past; run = run }
led_reached h tree (x ∷ items) past w run =
    led_reached h tree items _ (turn h w x).world (turned h tree past w run x)

-- what has more room has less
pub less_fine : (starts : Bool) (h : Hierarchy) (m n : ℕ) (w : World) → m ≤ n → Fine starts h n w → Fine starts h m w
less_fine starts h m n w less f = record {
  small = let a = f.small in omega (arith, a, less);
  past = f.past;
  run = f.run;
  ready = λ k there. let r = f.ready k there in record {
    runs = r.runs;
    lasts = elim r.lasts [
      | inl room ↦ inl (λ x c is. let l = room x c is in omega
          (arith, l, less))
      | inr boots ↦ inr boots
    ];
  };
}
