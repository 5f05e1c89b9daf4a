-- Ticks of a station send what its links are due, and change nothing else that counts.
use Rattle.std.proofs.Common.{ℕ, zero, suc, ◌≡◌, ◌≤◌, ◌+◌, Bool, true, false, List, [], ◌∷◌, inl, inr, refl, sym, ap}
use Rattle.std.proofs.Common.{◌∙◌, subst, arith}
use Rattle.std.specs.Prelude.{◌*◌, ◌++◌, filter, map, not, replicate, take, length, if◌then◌else◌}
use Rattle.std.proofs.lemmas.List.{length-take}
use Rattle.smi_message.specs.Message.{Message}
use Rattle.smi_tree.specs.Hierarchy.{Hierarchy}
use Rattle.smi_protocol.proofs.Lists.{In, in_mapped}
use Rattle.smi_protocol.proofs.Tables.{at_put, put_here}
use Rattle.smi_protocol.specs.Display.{Station}
use Rattle.smi_protocol.specs.Grants.{put}
use Rattle.smi_protocol.specs.Happening.{Ticks}
use Rattle.smi_protocol.specs.Schedule.{World, nothing, stepped, turn}
use Rattle.smi_protocol.specs.Step.{after}
use Rattle.smi_protocol.specs.Ticking.{Owed, all_owed, first_place, is_before, most_sent, owed_from, place_behind}
use Rattle.smi_protocol.specs.declared.item.Deed.TheVariants as deed
use Rattle.smi_protocol.specs.declared.item.Item.{Item}
use Rattle.smi_protocol.specs.declared.item.Item.TheVariants as item
use Rattle.smi_protocol.specs.declared.ResendCursor.{ResendCursor}
use Rattle.smi_law.specs.World.{Among as IsSent}
use Rattle.smi_law.specs.Rest.{Each, IsStation, led}
use Rattle.smi_law.proofs.Ascending.{Ascends}
use Rattle.smi_law.proofs.Places.{NotBefore, kind}
use Rattle.smi_law.proofs.TickPlaces.{Earlier, SentWithin, sent_within}

-- time passes at a station
abbrev pub tick : ℕ → Item
tick number = item.Do (deed.Tick number)

-- What is sent.

pub sent_first : (m : Message) (xs ys : List Message) → IsSent m xs → IsSent m (xs ++ ys)
sent_first m [] ys a = absurd a
sent_first m (x ∷ xs) ys (inl same) = inl same
sent_first m (x ∷ xs) ys (inr a) = inr (sent_first m xs ys a)

pub sent_second : (m : Message) (xs ys : List Message) → IsSent m ys → IsSent m (xs ++ ys)
sent_second m [] ys a = a
sent_second m (x ∷ xs) ys a = inr (sent_second m xs ys a)

pub in_sent : (m : Message) (xs : List Message) → In m xs → IsSent m xs
in_sent m [] a = absurd a
in_sent m (x ∷ xs) (inl same) = inl same
in_sent m (x ∷ xs) (inr a) = inr (in_sent m xs a)

-- the first of a list are in what is taken of it
taken : {X : Type 0} (y : X) (n : ℕ) (xs ys : List X) → length xs ≤ n → In y xs → In y (take n (xs ++ ys))
taken y n [] ys most i = absurd i
taken y zero (x ∷ xs) ys most i = absurd (omega (arith, most))
taken y (suc n) (x ∷ xs) ys most (inl same) = inl same
taken y (suc n) (x ∷ xs) ys most (inr i) = inr (taken y n xs ys (omega (arith, most)) i)

mapped_length : {X Y : Type 0} (f : X → Y) (xs : List X) → length (map f xs) ≡ length xs
mapped_length f [] = refl
mapped_length f (x ∷ xs) = let l = mapped_length f xs in omega (arith, l)

-- Worlds that differ in what was sent and in where ticks begin.

pub record Alike (w v : World) : Type 0 where
  pub grants : (n : ℕ) → (v.stations n).grants ≡ (w.stations n).grants
  pub conditions : (n : ℕ) → (v.stations n).display.conditions ≡ (w.stations n).display.conditions
  pub runs : (n : ℕ) → (w.stations n).is_stopped ≡ false → (v.stations n).is_stopped ≡ false
  pub sent : (m : Message) → IsSent m w.sent → IsSent m v.sent

pub alike_on : (w v u : World) → Alike w v → Alike v u → Alike w u
alike_on w v u a b = record {
  grants = λ n. b.grants n ∙ a.grants n;
  conditions = λ n. b.conditions n ∙ a.conditions n;
  runs = λ n is. b.runs n (a.runs n is);
  sent = λ m i. b.sent m (a.sent m i);
}

-- the station with its next tick at another place
abbrev pub at_place : Station → ResendCursor → Station
at_place s p = record s { display = record s.display { place = p }; is_stopped = false }

module _ (h : Hierarchy) (number : ℕ) (s : Station) where
  abbrev all : List Owed
  all = all_owed h number s.grants s.display

  abbrev behind : ResendCursor → ResendCursor
  behind p = place_behind h first_place most_sent (owed_from p all)

  -- what a tick makes of the world
  abbrev ticked : World → ResendCursor → World
  ticked w p = record {
    stations = put w.stations number (at_place s (behind p));
    sent = w.sent ++ take most_sent ([] ++ map (λ (x : Owed). x.message) (owed_from p all) ++ []);
  }

  ticks_to : (w : World) (p : ResendCursor) → w.stations number ≡ at_place s p → (turn h w (tick number)).world
      ≡ ticked w p
  ticks_to w p is =
      subst (λ (z : Station). (if z.is_stopped then nothing w else stepped w number (after h number z Ticks)).world
      ≡ ticked w p) (sym is) refl

  -- what a tick sends is sent
  tick_sent : (w : World) (p : ResendCursor) (y : Owed) → In y (owed_from p all) → IsSent y.message (ticked w p).sent
  tick_sent w p y i =
      let few = length-take most_sent (filter (λ (x : Owed). not (is_before x.place p)) all) in
      let same = mapped_length (λ (x : Owed). x.message) (owed_from p all) in
      sent_second y.message w.sent _
      (in_sent y.message _ (taken y.message most_sent (map (λ (x : Owed). x.message) (owed_from p all)) []
      (omega (arith, few, same)) (in_mapped (λ (x : Owed). x.message) y (owed_from p all) i)))

  tick_alike : (w : World) (p : ResendCursor) → w.stations number ≡ at_place s p → s.is_stopped ≡ false → Alike
      w (ticked w p)
  tick_alike w p is runs = record {
    grants = λ n. at_put (λ (z : Station). z.grants ≡ (w.stations n).grants) w.stations number (at_place s
        (behind p)) n
        (λ e. ap (λ (z : Station). z.grants) (sym is ∙ ap w.stations (sym e))) refl;
    conditions = λ n. at_put (λ (z : Station). z.display.conditions
        ≡ (w.stations n).display.conditions) w.stations number
        (at_place s (behind p)) n
        (λ e. ap (λ (z : Station). z.display.conditions) (sym is ∙ ap w.stations (sym e))) refl;
    runs = λ n r. at_put (λ (z : Station). z.is_stopped ≡ false) w.stations number (at_place s (behind p)) n
        (λ e. refl) r;
    sent = λ m i. sent_first m w.sent _ i;
  }

  module _ (ascends : Ascends Earlier all) (begun : (x : Owed) → In x all → NotBefore x.place first_place)
      (runs : s.is_stopped ≡ false) where
    -- ticks that send a datagram
    pub record Sends (w : World) (y : Owed) (most : ℕ) : Type 0 where
      pub count : ℕ
      pub few : count ≤ most
      pub alike : Alike w (led h w (replicate count (tick number)))
      pub sends : IsSent y.message (led h w (replicate count (tick number))).sent

    sends_after : (y : Owed) (k : ℕ) (p : ResendCursor) (w : World) → w.stations number ≡ at_place s p
        → SentWithin h all ascends begun y k p → Sends w y k
    sends_after y zero p w is within = absurd within
    sends_after y (suc k) p w is (inl sent) = record {
      count = 1;
      few = omega arith;
      alike = subst (Alike w) (sym (ticks_to w p is)) (tick_alike w p is runs);
      sends = subst (λ (z : World). IsSent y.message z.sent) (sym (ticks_to w p is)) (tick_sent w p y sent);
    }
    sends_after y (suc k) p w is (inr later) =
        let to : World = (turn h w (tick number)).world in
        let on = sends_after y k (behind p) to
        (ap (λ (z : World). z.stations number) (ticks_to w p is) ∙ put_here w.stations number (at_place s (behind p)))
        later in
        let fewer = on.few in
        record {
          count = suc on.count;
          few = omega (arith, fewer);
          alike = alike_on w to _ (subst (Alike w) (sym (ticks_to w p is)) (tick_alike w p is runs)) on.alike;
          sends = on.sends;
        }

    pub ticks_send : (m : ℕ) → length all ≤ most_sent * m → (y : Owed) (w : World) → w.stations number ≡ s → In y all
        → kind y.place ≤ 1 → Sends w y (suc (m + m))
    ticks_send m most y w is there low =
        sends_after y (suc (m + m)) s.display.place w (is ∙ stands)
        (sent_within h all ascends begun y there low m most s.display.place)
      where
        stands : s ≡ at_place s s.display.place
        stands = ap (λ b. record s { is_stopped = b }) runs

-- ticks are items of a settling
pub ticks_fit : (starts : Bool) (h : Hierarchy) (number : ℕ) → IsStation h number → (count : ℕ) (w : World)
    → Each starts h w (replicate count (tick number))
ticks_fit starts h number here zero w = tt
ticks_fit true h number here (suc count) w = (here, ticks_fit true h number here count (turn h w (tick number)).world)
ticks_fit false h number here (suc count) w = (
  here,
  ticks_fit false h number here count (turn h w
      (tick number)).world,
)
