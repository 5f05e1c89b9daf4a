-- What is made of a station whose save fails.
use Rattle.std.proofs.Common.{ℕ, ◌≡◌, true, false, [], ◌++◌, None, Result, append-nil, refl, sym, ap, ◌∙◌, subst}
use Rattle.std.specs.Prelude.{◌||◌, if◌then◌else◌, is_some, OnOk}
use Rattle.smi_tree.specs.Hierarchy.{Hierarchy}
use Rattle.smi_rows.specs.declared.Plan.{Plan}
use Rattle.smi_rows.specs.declared.Plan.TheVariants as plan
use Rattle.smi_rows.specs.Store.{found_in}
use Rattle.smi_protocol.specs.Display.{Station}
use Rattle.smi_protocol.specs.Happening.{Happening, told_entries}
use Rattle.smi_protocol.specs.Step.{Out, Outcome, after, nothing_out}
use Rattle.smi_protocol.specs.Schedule.{not_stored}
use Rattle.smi_station.specs.Core.{IsOf, IsStoredIn, number_of, station_of, tree_of}
use Rattle.smi_world.specs.declared.post.Post.{Post}
use Rattle.smi_world.specs.Left.{Left}
use Rattle.smi_world.specs.Made.{Leaves}
use Rattle.smi_world.specs.Posts.{IsPost, Makes}
use Rattle.smi_world.specs.Turning.{fail_act, failed_act, idle, step_act, step_of}
use Rattle.smi_world.proofs.Acts.{or_true, same_step, saved_halts, saved_kept}

module _ (h : Hierarchy) (number : ℕ) (s : Station) (p : Post) (is : IsPost h number p s) where
  -- the order is told so, and nothing else is left
  pub device_makes : (l : Left) (what : Happening) → l.out.kept ≡ [] → l.started ≡ None → l.out.passed ≡ []
      → l.out.shown ≡ None → told_entries l.out.answers ≡ not_stored what → l.out.datagrams ≡ []
      → Makes h number p l (failed_act h number plan.Device what s)
  device_makes l what kept started passed shown told sends =
      record { post = is; entries = rw (kept, started, passed, shown) told; sends = sends }

  -- it stops
  pub before_makes : (next : Post) (l : Left) (what : Happening) → next.station ≡ p.station → next.is_down ≡ true
      → l.started ≡ None → l.out ≡ nothing_out
      → Makes h number next l (failed_act h number plan.Before what s)
  before_makes next l what same out started handed = record {
    post = record {
      of_tree = record {
        tree = ap (λ x. tree_of x.core) same ∙ is.of_tree.tree;
        number = ap (λ x. number_of x.core) same ∙ is.of_tree.number;
      };
      grants = ap (λ x. (station_of x.core).grants) same ∙ is.grants;
      stopped = or_true next.station.core.is_stopped next.is_down out;
      display = λ running. absurd cc;
      stored = subst (λ x. IsStoredIn (found_in x.store.list) x.core) (sym same) is.stored;
    };
    entries = rw (started, handed) refl;
    sends = ap (λ (z : Out). z.datagrams) handed;
  }

  -- it stops, and what it has saved is left
  pub after_makes : (next : Post) (made l : Left) (what : Happening)
      → (p.station.core.is_stopped || p.is_down) ≡ false → next.is_down ≡ true
      → station_of next.station.core
      ≡ (after (tree_of p.station.core) (number_of p.station.core) (station_of p.station.core) what).station
      → IsOf (tree_of p.station.core) (number_of p.station.core) next.station.core
      → Leaves (tree_of p.station.core) made (after (tree_of p.station.core) (number_of p.station.core)
      (station_of p.station.core) what)
      → IsStoredIn (found_in next.station.store.list) next.station.core
      → l.started ≡ None → l.out ≡ record nothing_out { kept = made.out.kept }
      → Makes h number next l (failed_act h number plan.After what s)
  after_makes next made l what runs out station of leaves stored started handed = record {
    post = saved_halts h number s p is next what runs out station of stored;
    entries = rw (started, handed)
        (append-nil (made.out.kept ++ []) ∙ append-nil made.out.kept
        ∙ saved_kept h number s p is made what runs leaves);
    sends = ap (λ (z : Out). z.datagrams) handed;
  }

  -- What reaches one that has stopped is not made.
  pub stopped_fails : (how : Plan) (l : Left) (what : Happening) → (p.station.core.is_stopped || p.is_down) ≡ true
      → Makes h number p l (idle s) → Makes h number p l (fail_act h number how what s)
  stopped_fails how l what stopped makes =
      subst (λ b. Makes h number p l (if b then idle s
      else (if is_some (after h number s what).saved then failed_act h number how what s
      else step_of (after h number s what)))) (sym (is.stopped ∙ stopped)) makes

  -- One that runs and would save a row fails to.
  pub saving_fails : {X Y : Type 0} (r : Result X Y) (how : Plan) (next : Post) (l : Left) (what : Happening)
      → (p.station.core.is_stopped || p.is_down) ≡ false
      → is_some (after (tree_of p.station.core) (number_of p.station.core) (station_of p.station.core) what).saved
      ≡ true
      → OnOk r (Makes h number next l (failed_act h number how what s))
      → OnOk r (Makes h number next l (fail_act h number how what s))
  saving_fails r how next l what runs saves makes =
      subst (λ b. OnOk
      r (Makes h number next l (if b then idle s
      else (if is_some (after h number s what).saved then failed_act h number how what s
      else step_of (after h number s what))))) (sym (is.stopped ∙ runs))
      (subst (λ b. OnOk r (Makes h number next l
      (if b then failed_act h number how what s else step_of (after h number s what))))
      (sym saves ∙ ap (λ (o : Outcome). is_some o.saved) (same_step h number s p is what runs)) makes)

  -- One that saves nothing makes its step.
  pub nothing_fails : {X Y : Type 0} (r : Result X Y) (how : Plan) (next : Post) (l : Left) (what : Happening)
      → (p.station.core.is_stopped || p.is_down) ≡ false
      → is_some (after (tree_of p.station.core) (number_of p.station.core) (station_of p.station.core) what).saved
      ≡ false
      → OnOk r (Makes h number next l (step_act h number what s))
      → OnOk r (Makes h number next l (fail_act h number how what s))
  nothing_fails r how next l what runs saves makes =
      subst (λ b. OnOk
      r (Makes h number next l (if b then idle s
      else (if is_some (after h number s what).saved then failed_act h number how what s
      else step_of (after h number s what))))) (sym (is.stopped ∙ runs))
      (subst (λ b. OnOk r (Makes h number next l
      (if b then failed_act h number how what s else step_of (after h number s what))))
      (sym saves ∙ ap (λ (o : Outcome). is_some o.saved) (same_step h number s p is what runs))
      (subst (λ b. OnOk r (Makes h number next l (if b then idle s else step_of (after h number s what))))
      (is.stopped ∙ runs) makes))
