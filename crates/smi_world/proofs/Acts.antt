-- What is made of a station of the world is what is defined.
use Rattle.std.proofs.Common.{ℕ, ◌≡◌, Bool, true, false, List, [], ◌++◌, Some, None, Option, Result, Ok, Err}
use Rattle.std.proofs.Common.{append-nil, arith, refl, sym, ap, ◌∙◌, subst}
use Rattle.std.specs.Prelude.{◌||◌, ◌==◌, ◌<◌, if◌then◌else◌, OnErr, OnOk}
use mathlib.Core.Path.{fun_ext}
use Rattle.std.proofs.lemmas.Bool.{eqb-true, eq-eqb}
use Rattle.smi_message.specs.Message.{last_boot}
use Rattle.smi_tree.specs.Hierarchy.{Hierarchy}
use Rattle.smi_rows.specs.Store.{IsSame, Rows, found_in}
use Rattle.smi_station_grants.specs.Starting.{IfStoreFailed, IfUnchanged}
use Rattle.smi_station_grants.specs.Stored.{Restarts}
use Rattle.smi_protocol.specs.Opening.{opened, opening_entries, saved_only}
use Rattle.smi_protocol.specs.Step.{Out, nothing_out}
use Rattle.smi_protocol.specs.declared.entry.Entry.{Entry}
use Rattle.smi_protocol.specs.declared.fault.OpenFault.{OpenFault}
use Rattle.smi_protocol.specs.declared.fault.OpenFault.TheVariants as open_fault
use Rattle.smi_protocol.specs.Display.{Display, Station}
use Rattle.smi_protocol.specs.Grants.{Grants}
use Rattle.smi_protocol.specs.Happening.{Happening}
use Rattle.smi_protocol.specs.Step.{Outcome, after}
use Rattle.smi_station.specs.Core.{Core, IsOf, IsStoredIn, number_of, station_of, tree_of}
use Rattle.smi_world.specs.declared.post.Post.{Post}
use Rattle.smi_world.specs.Left.{Left, entries_left, nothing_left, start_entries}
use Rattle.smi_world.specs.Made.{Leaves}
use Rattle.smi_world.specs.Posts.{IsPost, Makes}
use Rattle.smi_world.specs.Turning.{act, idle, restart_act, step_act, step_of, stop_act}

-- neither is so
left_false : (a b : Bool) → (a || b) ≡ false → a ≡ false
left_false true b is = is
left_false false b is = refl

right_false : (a b : Bool) → (a || b) ≡ false → b ≡ false
right_false true b is = absurd cc
right_false false b is = is

or_false : (a b : Bool) → b ≡ false → a ≡ (a || b)
or_false true b is = refl
or_false false b is = sym is

pub or_true : (a b : Bool) → b ≡ true → true ≡ (a || b)
or_true true b e = refl
or_true false b e = sym e

pub runs_there : (p : Post) → (p.station.core.is_stopped || p.is_down) ≡ false → p.station.core.is_stopped ≡ false
runs_there p is = left_false p.station.core.is_stopped p.is_down is

abbrev station : Grants → Display → Bool → Station
station g d b = record { grants = g; display = d; is_stopped = b }

one_station : (g k : Grants) (d e : Display) (a b : Bool) → g ≡ k → d ≡ e → a ≡ b → station g d a ≡ station k e b
one_station g k d e a b i j l = ap (λ x. station x d a) i ∙ ap (λ x. station k x a) j ∙ ap (λ x. station k e x) l

module _ (h : Hierarchy) (number : ℕ) (s : Station) (p : Post) (is : IsPost h number p s) where
  -- a station that runs is what is defined, whole
  running_is : (p.station.core.is_stopped || p.is_down) ≡ false → station_of p.station.core ≡ s
  running_is runs = one_station _ s.grants _ s.display p.station.core.is_stopped s.is_stopped is.grants
      (is.display (is.stopped ∙ runs)) (runs_there p runs ∙ sym (is.stopped ∙ runs))

  -- its step is the defined one
  pub same_step : (what : Happening) → (p.station.core.is_stopped || p.is_down) ≡ false
      → after (tree_of p.station.core) (number_of p.station.core) (station_of p.station.core) what
      ≡ after h number s what
  same_step what runs = ap (λ (x : Hierarchy). after x (number_of p.station.core) (station_of p.station.core) what)
      is.of_tree.tree ∙ ap (λ n. after h n (station_of p.station.core) what) is.of_tree.number
      ∙ ap (λ (z : Station). after h number z what) (running_is runs)

  -- nothing happens
  pub idles : (l : Left) (k b : ℕ) → l ≡ nothing_left k b → Makes h number p l (idle s)
  idles l k b nothing = record {
    post = is;
    entries = ap (λ (x : Left). entries_left h x) nothing;
    sends = ap (λ (x : Left). x.out.datagrams) nothing;
  }

  -- one that has stopped makes no step
  pub stopped_makes : (l : Left) (what : Happening) → (p.station.core.is_stopped || p.is_down) ≡ true
      → Makes h number p l (idle s) → Makes h number p l (step_act h number what s)
  stopped_makes l what stopped makes = subst
      (λ b. Makes h number p l (if b then idle s else step_of (after h number s what)))
      (sym (is.stopped ∙ stopped)) makes

  -- it starts again
  pub stopped_restarts : {X Y : Type 0} (r : Result X Y) (next : Post) (l : Left) (what : Happening)
      → (p.station.core.is_stopped || p.is_down) ≡ true → OnOk r (Makes h number next l (restart_act h number [] s))
      → OnOk r (Makes h number next l (stop_act h number what s))
  stopped_restarts r next l what stopped makes =
      subst (λ b. OnOk
      r (Makes h number next l (if b then restart_act h number [] s
      else restart_act h number (after h number s what).kept (saved_only h number s what))))
      (sym (is.stopped ∙ stopped)) makes

  -- one that runs has kept what its save has left, and starts again
  pub saved_restarts : {X Y : Type 0} (r : Result X Y) (next : Post) (l : Left) (kept : List Entry)
      (what : Happening) → (p.station.core.is_stopped || p.is_down) ≡ false → kept ≡ (after h number s what).kept
      → OnOk r (Makes h number next l (restart_act h number kept (saved_only h number s what)))
      → OnOk r (Makes h number next l (stop_act h number what s))
  saved_restarts r next l kept what runs same makes =
      subst (λ b. OnOk
      r (Makes h number next l (if b then restart_act h number [] s
      else restart_act h number (after h number s what).kept (saved_only h number s what)))) (sym (is.stopped ∙ runs))
      (subst (λ k. OnOk r (Makes h number next l (restart_act h number k (saved_only h number s what)))) same makes)

  -- one that runs makes its step
  pub step_makes : (next : Post) (l : Left) (what : Happening) → (p.station.core.is_stopped || p.is_down) ≡ false
      → next.is_down ≡ p.is_down
      → station_of next.station.core
      ≡ (after (tree_of p.station.core) (number_of p.station.core) (station_of p.station.core) what).station
      → IsOf (tree_of p.station.core) (number_of p.station.core) next.station.core
      → Leaves (tree_of p.station.core) l (after (tree_of p.station.core) (number_of p.station.core)
      (station_of p.station.core) what)
      → IsStoredIn (found_in next.station.store.list) next.station.core
      → Makes h number next l (step_act h number what s)
  step_makes next l what runs out made of leaves stored =
      subst (λ b. Makes h number next l (if b then idle s else step_of (after h number s what)))
      (sym (is.stopped ∙ runs)) (by now leaves_now)
    where
      same : after (tree_of p.station.core) (number_of p.station.core) (station_of p.station.core) what
          ≡ after h number s what
      same = same_step what runs

      now : station_of next.station.core ≡ (after h number s what).station
      now = made ∙ ap (λ (o : Outcome). o.station) same

      leaves_now : Leaves h l (after h number s what)
      leaves_now =
          subst (Leaves h l) same
          (subst (λ (x : Hierarchy). Leaves x l (after (tree_of p.station.core) (number_of p.station.core)
          (station_of p.station.core) what)) is.of_tree.tree leaves)

      by : station_of next.station.core ≡ (after h number s what).station → Leaves h l (after h number s what)
          → Makes h number next l (step_of (after h number s what))
      by is_now left = record {
        post = record {
          of_tree = record { tree = of.tree ∙ is.of_tree.tree; number = of.number ∙ is.of_tree.number };
          grants = ap (λ (z : Station). z.grants) is_now;
          stopped = sym (ap (λ (z : Station). z.is_stopped) is_now)
              ∙ or_false next.station.core.is_stopped next.is_down
              (out ∙ right_false p.station.core.is_stopped p.is_down runs);
          display = λ running. ap (λ (z : Station). z.display) is_now;
          stored = stored;
        };
        entries = left.entries;
        sends = left.sends;
      }

  -- one that stops after its save keeps what it has saved
  pub saved_halts : (next : Post) (what : Happening) → (p.station.core.is_stopped || p.is_down) ≡ false
      → next.is_down ≡ true
      → station_of next.station.core
      ≡ (after (tree_of p.station.core) (number_of p.station.core) (station_of p.station.core) what).station
      → IsOf (tree_of p.station.core) (number_of p.station.core) next.station.core
      → IsStoredIn (found_in next.station.store.list) next.station.core
      → IsPost h number next (saved_only h number s what)
  saved_halts next what runs out made of stored = record {
    of_tree = record { tree = of.tree ∙ is.of_tree.tree; number = of.number ∙ is.of_tree.number };
    grants = ap (λ (z : Station). z.grants) (made ∙ ap (λ (o : Outcome). o.station) (same_step what runs));
    stopped = or_true next.station.core.is_stopped next.is_down out;
    display = λ running. absurd cc;
    stored = stored;
  }

  -- and what the save has left is what is defined
  pub saved_kept : (l : Left) (what : Happening) → (p.station.core.is_stopped || p.is_down) ≡ false
      → Leaves (tree_of p.station.core) l (after (tree_of p.station.core) (number_of p.station.core)
      (station_of p.station.core) what) → l.out.kept ≡ (after h number s what).kept
  saved_kept l what runs leaves = leaves.kept ∙ ap (λ (o : Outcome). o.kept) (same_step what runs)

  -- one whose step was not made stays
  pub stays : (next : Post) → next.is_down ≡ p.is_down → next.station.core ≡ p.station.core
      → IsStoredIn (found_in next.station.store.list) next.station.core → IsPost h number next s
  stays next out same stored = record {
    of_tree = record {
      tree = ap (λ (c : Core). tree_of c) same ∙ is.of_tree.tree;
      number = ap (λ (c : Core). number_of c) same ∙ is.of_tree.number;
    };
    grants = ap (λ (c : Core). (station_of c).grants) same ∙ is.grants;
    stopped = is.stopped ∙ ap (λ (c : Core). c.is_stopped || p.is_down) (sym same)
        ∙ ap (λ b. next.station.core.is_stopped || b) (sym out);
    display = λ running. ap (λ (c : Core). (station_of c).display) same ∙ is.display running;
    stored = stored;
  }

  -- Starting again.

  -- the grants that are kept are what is defined
  restarts_there : (r : Result Station OpenFault)
      → Restarts (tree_of p.station.core) (number_of p.station.core) (station_of p.station.core).grants r
      → Restarts h number s.grants r
  restarts_there r starts =
      subst (λ (g : Grants). Restarts h number g r) is.grants
      (subst (λ n. Restarts h n (station_of p.station.core).grants r) is.of_tree.number
      (subst (λ (x : Hierarchy). Restarts x (number_of p.station.core) (station_of p.station.core).grants r)
      is.of_tree.tree starts))

  -- what is left of a step that is over: what it has kept, and the start
  module _ (next : Post) (l : Left) (kept : List Entry) (own : l.station ≡ number)
      (out : l.out ≡ record nothing_out { kept = kept }) where
    left_over : (started : Option ℕ) → l.started ≡ started → entries_left h l ≡ kept ++ start_entries h number started
    left_over started is_started = rw (own, is_started, out)
        (append-nil (kept ++ start_entries h number started))

    nothing_sent : l.out.datagrams ≡ []
    nothing_sent = ap (λ (z : Out). z.datagrams) out

    -- the station has started
    pub starts_makes : next.is_down ≡ false → Restarts (tree_of p.station.core) (number_of p.station.core)
        (station_of p.station.core).grants (Ok (station_of next.station.core))
        → IsOf (tree_of p.station.core) (number_of p.station.core) next.station.core
        → IsStoredIn (found_in next.station.store.list) next.station.core
        → l.started ≡ Some (station_of next.station.core).grants.boot
        → Makes h number next l (restart_act h number kept s)
    starts_makes in_ starts of stored boot =
        subst (λ b. Makes h number next l (if b then act (record s { is_stopped = true }) kept []
        else act (opened h number s.grants) (kept ++ opening_entries h number (opened h number s.grants)) []))
        (sym (left_boots (s.grants.boot == last_boot) refl))
        (record {
          post = record {
            of_tree = record { tree = of.tree ∙ is.of_tree.tree; number = of.number ∙ is.of_tree.number };
            grants = ap (λ (z : Station). z.grants) now;
            stopped = sym (ap (λ (z : Station). z.is_stopped) now)
                ∙ or_false next.station.core.is_stopped next.is_down in_;
            display = λ running. ap (λ (z : Station). z.display) now;
            stored = stored;
          };
          entries = left_over (Some (station_of next.station.core).grants.boot) boot
              ∙ ap (λ (z : Station). kept ++ start_entries h number (Some z.grants.boot)) now;
          sends = nothing_sent;
        })
      where
        there : Restarts h number s.grants (Ok (station_of next.station.core))
        there = restarts_there (Ok (station_of next.station.core)) starts

        now : station_of next.station.core ≡ opened h number s.grants
        now = there.1

        left_boots : (b : Bool) → (s.grants.boot == last_boot) ≡ b → (s.grants.boot == last_boot) ≡ false
        left_boots true e = absurd (there.0 (eqb-true s.grants.boot last_boot e))
        left_boots false e = e

    -- its boots are spent
    pub spent_makes : next.is_down ≡ true → Restarts (tree_of p.station.core) (number_of p.station.core)
        (station_of p.station.core).grants (Err open_fault.BootsSpent)
        → next.station.core ≡ p.station.core → IsStoredIn (found_in next.station.store.list) next.station.core
        → l.started ≡ None → Makes h number next l (restart_act h number kept s)
    spent_makes out_ spent same stored none =
        subst (λ b. Makes h number next l (if b then act (record s { is_stopped = true }) kept []
        else act (opened h number s.grants) (kept ++ opening_entries h number (opened h number s.grants)) []))
        (sym (eq-eqb s.grants.boot last_boot (restarts_there (Err open_fault.BootsSpent) spent)))
        (record {
          post = record {
            of_tree = record {
              tree = ap (λ (c : Core). tree_of c) same ∙ is.of_tree.tree;
              number = ap (λ (c : Core). number_of c) same ∙ is.of_tree.number;
            };
            grants = ap (λ (c : Core). (station_of c).grants) same ∙ is.grants;
            stopped = or_true next.station.core.is_stopped next.is_down out_;
            display = λ running. absurd cc;
            stored = stored;
          };
          entries = left_over None none ∙ append-nil kept;
          sends = nothing_sent;
        })

-- a start that fails leaves the rows
pub rows_stay : (old new : Rows) (c : Core) (fault : OpenFault) → IfStoreFailed {X = Unit {0}} (Err fault) (0 < 0)
    → IfUnchanged {X = Unit {0}} (Err fault) (Unit {0} × IsSame new old) → IsStoredIn old c → IsStoredIn new c
rows_stay old new c fault cause rows stored =
    subst (λ (z : Rows). IsStoredIn z c) (sym (fun_ext (by fault cause rows))) stored
  where
    by : (f : OpenFault) → IfStoreFailed {X = Unit {0}} (Err f) (0 < 0)
        → IfUnchanged {X = Unit {0}} (Err f) (Unit {0} × IsSame new old) → IsSame new old
    by open_fault.NoSuchStation cause rows = rows.1
    by (open_fault.Row k code) cause rows = rows.1
    by open_fault.BootsSpent cause rows = rows.1
    by (open_fault.Store fault) cause rows = let wrong : ⊥ = omega (arith, cause) in absurd wrong
    by open_fault.Memory cause rows = rows.1

-- what holds on a success
pub all_ok : {X Y A B C D : Type 0} (r : Result X Y) → OnOk r A → OnOk r B → OnOk r C → (A → B → C → D) → OnOk r D
all_ok (Ok x) a b c f = f a b c
all_ok (Err e) a b c f = tt

-- what is known holds also after an error
pub held_err : {X Y P : Type 0} (r : Result X Y) → P → OnErr r P
held_err (Ok x) p = tt
held_err (Err e) p = p

pub on_ok : {X Y A B : Type 0} (r : Result X Y) → OnOk r A → (A → B) → OnOk r B
on_ok (Ok x) a f = f a
on_ok (Err e) a f = tt

pub on_err : {X Y A B : Type 0} (r : Result X Y) → OnErr r A → (A → B) → OnErr r B
on_err (Ok x) a f = tt
on_err (Err e) a f = f a
