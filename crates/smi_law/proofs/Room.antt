-- A step changes each object of a station twice at most, so that a station lasts while its objects have room.
use Rattle.std.proofs.Common.{ℕ, ◌≡◌, ◌<◌, ◌≤◌, ◌+◌, false, List, [], ◌∷◌, refl, subst, arith}
use Rattle.std.specs.Prelude.{◌==◌, ◌++◌, map, Option, Some, None, option_map}
use Rattle.std.proofs.lemmas.Bool.Decides.{nat_tests}
use Rattle.smi_grant.specs.declared.Command.{Command}
use Rattle.smi_grant.specs.declared.Command.TheVariants.{Do, Include, Exclude, Manual, Ignore}
use Rattle.smi_grant.specs.declared.Shown.{Shown}
use Rattle.smi_grant.specs.Keeper.{admits}
use Rattle.smi_message.specs.declared.Body.{Body}
use Rattle.smi_message.specs.declared.Body.TheVariants as body
use Rattle.smi_message.specs.Message.{Message}
use Rattle.smi_publish.specs.declared.condition.Condition.{Condition}
use Rattle.smi_publish.specs.Published.{change_at, changes_at, condition, differs, last_sequence, shown, shown_at}
use Rattle.smi_publish.specs.Publishing.{acted, come_to, device_objects, evaluated, first_condition, is_among}
use Rattle.smi_publish.specs.Publishing.{moved_by as device_moved, unit_moved}
use Rattle.smi_tree.specs.Roles.{is_kept_by}
use Rattle.smi_tree.specs.Hierarchy.{Hierarchy}
use Rattle.smi_tree.specs.Lookups.{accepts, first_state}
use Rattle.smi_command.proofs.Heard.{choose}
use Rattle.smi_protocol.proofs.Lists.{from_chosen}
use Rattle.smi_protocol.specs.Display.{Display, Station}
use Rattle.smi_protocol.specs.Grants.{Grants}
use Rattle.smi_protocol.specs.Happening.{Comes}
use Rattle.smi_protocol.specs.Showing.{Member, domain_of_happening, followed, is_spent, members_of, moved_by}
use Rattle.smi_protocol.specs.Showing.{moved_by_body, moved_by_command}
use Rattle.smi_protocol.specs.Showing.{passed_in, same_members}
use Rattle.smi_protocol.specs.Step.{conditions_after, conditions_by}
use Rattle.smi_law.specs.Rest.{HasChanges}
use Rattle.smi_law.proofs.RestLists.{none_any}

abbrev Table : Type 0
Table = ℕ → Option Condition

-- what was there before, and how far its sequence was
record Was (k : ℕ) (old : Option Condition) (c : Condition) : Type 0 where
  before : Condition
  is : old ≡ Some before
  rises : c.sequence ≤ before.sequence + k

abbrev Rises : ℕ → Table → Table → Type 0
Rises k old new = (x : ℕ) (c : Condition) → new x ≡ Some c → Was k (old x) c

same_rises : (old : Table) → Rises 0 old old
same_rises old x c is = record { before = c; is = is; rises = omega arith }

rises_more : (j k : ℕ) (old new : Table) → j ≤ k → Rises j old new → Rises k old new
rises_more j k old new less r x c is =
    let w = r x c is in let l = w.rises in
    record { before = w.before; is = w.is; rises = omega (arith, l, less) }

rises_on : (j k : ℕ) (a b c : Table) → Rises j a b → Rises k b c → Rises (j + k) a c
rises_on j k a b c r s x y is =
    let v = s x y is in
    let w = r x v.before v.is in
    let l = v.rises in
    let m = w.rises in
    record { before = w.before; is = w.is; rises = omega (arith, l, m) }

comes_to : (state : ℕ) (c : Condition) → (come_to state c).sequence ≤ c.sequence + 1
comes_to state c = choose (λ (z : Condition). z.sequence ≤ c.sequence + 1) (c.state == state) c
    (condition state (c.sequence + 1)) (λ t. omega arith) (λ f. omega arith)

mapped_was : (f : Condition → Condition) → ((c : Condition) → (f c).sequence ≤ c.sequence + 1) → (o : Option Condition)
    (c : Condition) → option_map f o ≡ Some c → Was 1 o c
mapped_was f rises None c is = absurd cc
mapped_was f rises (Some b) c is =
    let same : f b ≡ c = cc in
    record { before = b; is = refl; rises = subst (λ (z : Condition). z.sequence ≤ b.sequence + 1) same (rises b) }

same_was : (o : Option Condition) (c : Condition) → o ≡ Some c → Was 1 o c
same_was o c is = record { before = c; is = is; rises = omega arith }

acted_rises : (h : Hierarchy) (old : Table) (d a : ℕ) → Rises 1 old (acted h old d a)
acted_rises h old d a x c =
    choose (λ o. o ≡ Some c → Was 1 (old x) c) (is_among (device_objects h d) x)
    (option_map (device_moved h a x) (old x)) (old x)
    (λ t. mapped_was (device_moved h a x) (λ b. comes_to _ b) (old x) c)
    (λ f. same_was (old x) c)

evaluated_rises : (h : Hierarchy) (old : Table) (d : ℕ) (states : List ℕ) → Rises 1 old (evaluated h old d states)
evaluated_rises h old d states x c =
    choose (λ o. o ≡ Some c → Was 1 (old x) c) (x == d) (option_map (unit_moved h d states) (old x)) (old x)
    (λ t. mapped_was (unit_moved h d states) (λ b. comes_to _ b) (old x) c)
    (λ f. same_was (old x) c)

command_rises : (h : Hierarchy) (old : Table) (d : ℕ) (c : Command) → Rises 1 old (moved_by_command h old d c)
command_rises h old d (Do a) =
    choose (λ z. Rises 1 old z) (accepts h d a) (acted h old d a) old (λ t. acted_rises h old d a)
    (λ f. rises_more 0 1 old old (omega arith) (same_rises old))
command_rises h old d (Include t) = rises_more 0 1 old old (omega arith) (same_rises old)
command_rises h old d (Exclude t) = rises_more 0 1 old old (omega arith) (same_rises old)
command_rises h old d (Manual t) = rises_more 0 1 old old (omega arith) (same_rises old)
command_rises h old d (Ignore t) = rises_more 0 1 old old (omega arith) (same_rises old)

body_rises : (h : Hierarchy) (g : Grants) (old : Table) (b : Body) → Rises 1 old (moved_by_body h g old b)
body_rises h g old (body.Run d who e n c) =
    choose (λ z. Rises 1 old z) (admits (g.records d) who e n) (moved_by_command h old d c) old
    (λ t. command_rises h old d c) (λ f. rises_more 0 1 old old (omega arith) (same_rises old))
body_rises h g old (body.Ask d) = rises_more 0 1 old old (omega arith) (same_rises old)
body_rises h g old (body.Take d who seen) = rises_more 0 1 old old (omega arith) (same_rises old)
body_rises h g old (body.Drop d who e) = rises_more 0 1 old old (omega arith) (same_rises old)
body_rises h g old (body.Tell d r) = rises_more 0 1 old old (omega arith) (same_rises old)
body_rises h g old (body.Watch x echo) = rises_more 0 1 old old (omega arith) (same_rises old)
body_rises h g old (body.State x echo v s) = rises_more 0 1 old old (omega arith) (same_rises old)
body_rises h g old (body.Unwatch x echo) = rises_more 0 1 old old (omega arith) (same_rises old)

followed_rises : (h : Hierarchy) (a b : List Member) (old : Table) (d : ℕ) → Rises 1 old (followed h a b old d)
followed_rises h a b old d =
    choose (λ z. Rises 1 old z) (same_members a b) old (evaluated h old d (map (λ (m : Member). m.state) b))
    (λ t. rises_more 0 1 old old (omega arith) (same_rises old)) (λ f. evaluated_rises h old d _)

by_rises : (h : Hierarchy) (s : Station) (g : Grants) (display : Display) (moved : Table) (o : Option ℕ)
    → Rises 1 moved (conditions_by h s g display moved o)
by_rises h s g display moved None = rises_more 0 1 moved moved (omega arith) (same_rises moved)
by_rises h s g display moved (Some d) = followed_rises h
    (members_of h s.grants s.display.conditions s.display.shown d) (members_of h g moved display.shown d) moved d

comes_rises : (h : Hierarchy) (s : Station) (g : Grants) (display : Display) (m : Message)
    → Rises 2 s.display.conditions (conditions_after h s g display (Comes m))
comes_rises h s g display m =
    rises_on 1 1 s.display.conditions (moved_by h s.grants s.display.conditions (Comes m)) _
    (body_rises h s.grants s.display.conditions m.body)
    (by_rises h s g display (moved_by h s.grants s.display.conditions (Comes m)) (domain_of_happening h (Comes m)))

room_left : (n : ℕ) (old new : Table) → Rises 2 old new → HasChanges (n + 2) old → HasChanges n new
room_left n old new r room x c is =
    let w = r x c is in
    let l = w.rises in
    let k = room x w.before w.is in
    omega (arith, l, k)

-- The station stays in service.

shown_below : (boot : ℕ) (new : Table) (x : ℕ) (s : Shown) → HasChanges 0 new → shown_at boot new x ≡ Some s
    → (s.version.sequence == last_sequence) ≡ false
shown_below boot new x s room is = by (new x) refl is
  where
    below : (a b : ℕ) → a + 0 < b → (a == b) ≡ false
    below a b l = grind (arith, nat_tests)

    by : (o : Option Condition) → new x ≡ o → option_map (shown boot x) o ≡ Some s
        → (s.version.sequence == last_sequence) ≡ false
    by None at i = absurd cc
    by (Some c) at i =
        let same : shown boot x c ≡ s = cc in
        subst (λ (z : Shown). (z.version.sequence == last_sequence) ≡ false) same
        (below c.sequence last_sequence (room x c at))

change_below : (boot : ℕ) (old new : Table) (x : ℕ) (s : Shown) → HasChanges 0 new → change_at boot old new x ≡ Some s
    → (s.version.sequence == last_sequence) ≡ false
change_below boot old new x s room =
    choose (λ o. o ≡ Some s → (s.version.sequence == last_sequence) ≡ false) (differs (old x) (new x))
    (shown_at boot new x) None (λ t. shown_below boot new x s room) (λ f is. absurd cc)

passed_below : (h : Hierarchy) (boot : ℕ) (old new : Table) (o : Option ℕ) → HasChanges 0 new
    → is_spent (passed_in h boot old new o) ≡ false
passed_below h boot old new None room = refl
passed_below h boot old new (Some d) room =
    none_any (λ (s : Shown). s.version.sequence == last_sequence)
    (changes_at boot old new (device_objects h d ++ d ∷ []))
    (λ s i. let b = from_chosen (change_at boot old new) s (device_objects h d ++ d ∷ []) i in
    change_below boot old new b.0 s room b.2)

-- what comes leaves room, and the station in service
pub record Lasts (h : Hierarchy) (n : ℕ) (s : Station) (g : Grants) (display : Display) (m : Message) : Type 0 where
  pub room : HasChanges n (conditions_after h s g display (Comes m))
  pub unspent : is_spent (passed_in h s.grants.boot s.display.conditions (conditions_after h s g display (Comes m))
      (domain_of_happening h (Comes m))) ≡ false

pub lasts : (h : Hierarchy) (n : ℕ) (s : Station) (g : Grants) (display : Display) (m : Message)
    → HasChanges (n + 2) s.display.conditions → Lasts h n s g display m
lasts h n s g display m room =
    let left = room_left n s.display.conditions (conditions_after h s g display (Comes m))
    (comes_rises h s g display m)
    room in
    record {
      room = left;
      unspent = passed_below h s.grants.boot s.display.conditions (conditions_after h s g display (Comes m))
          (domain_of_happening h (Comes m)) (λ x c is. let l = left x c is in omega (arith, l));
    }

-- A station that has just started has all its room.
pub first_room : (h : Hierarchy) (number n : ℕ) → n < last_sequence → HasChanges n (first_condition h number)
first_room h number n small x c =
    choose (λ o. o ≡ Some c → c.sequence + n < last_sequence) (is_kept_by h number x)
    (option_map (λ state. condition state 0) (first_state h x)) None
    (λ t. by (first_state h x)) (λ f is. absurd cc)
  where
    by : (o : Option ℕ) → option_map (λ state. condition state 0) o ≡ Some c → c.sequence + n < last_sequence
    by None is = absurd cc
    by (Some state) is =
        let same : condition state 0 ≡ c = cc in
        subst (λ (z : Condition). z.sequence + n < last_sequence) same (omega (arith, small))
