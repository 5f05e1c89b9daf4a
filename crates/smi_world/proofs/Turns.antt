-- What an item makes of the world is what its task makes of one station.
use Rattle.std.proofs.Common.{ℕ, ◌≡◌, Bool, true, false, List, [], ◌++◌, Option, Some, None, append-nil, refl, sym}
use Rattle.std.proofs.Common.{ap, ◌∙◌, subst}
use Rattle.std.specs.Prelude.{◌==◌, ◌&&◌, not, is_some, option_map, if◌then◌else◌}
use Rattle.std.proofs.lemmas.Bool.{eqb-true}
use Rattle.smi_message.specs.Message.{Message, last_boot}
use Rattle.smi_tree.specs.Hierarchy.{Hierarchy}
use Rattle.smi_rows.specs.declared.Plan.{Plan}
use Rattle.smi_rows.specs.declared.Plan.TheVariants as plan
use Rattle.smi_protocol.specs.Display.{Station}
use Rattle.smi_protocol.specs.Happening.{Happening}
use Rattle.smi_protocol.specs.Opening.{opened, opening_entries, saved_only}
use Rattle.smi_protocol.specs.Step.{Outcome, after}
use Rattle.smi_protocol.specs.declared.entry.Entry.{Entry}
use Rattle.smi_protocol.specs.Schedule.{Turn, World, arrival, changed, done_by, failed, failing, nothing, restarted}
use Rattle.smi_protocol.specs.Schedule.{stepped, stopped_behind}
use Rattle.smi_law.proofs.Bridge.{put_same}
use Rattle.smi_world.specs.Coming.{arrival_in, happening, what_comes_to}
use Rattle.smi_world.specs.declared.coming.Arrival as coming
use Rattle.smi_world.specs.declared.coming.Coming.{Coming}
use Rattle.smi_world.specs.declared.task.Doing.{Doing}
use Rattle.smi_world.specs.declared.task.Doing.TheVariants as doing
use Rattle.smi_world.specs.declared.task.Task.{Task}
use Rattle.smi_world.specs.Tasks.{turn_of}
use Rattle.smi_world.specs.Turning.{act, failed_act, idle, restart_act, step_act, step_of, stop_act, turn_at}

-- a turn that leaves nothing
abbrev silent : (ℕ → Station) → List Message → Turn
silent stations sent = record { world = record { stations = stations; sent = sent }; entries = []; sends = [] }

idle_there : (w : World) (n : ℕ) → turn_at w n (idle (w.stations n)) ≡ nothing w
idle_there w n = ap (λ t. silent t (w.sent ++ [])) (put_same w.stations n) ∙ ap (silent w.stations) (append-nil w.sent)

pub step_there : (h : Hierarchy) (w : World) (n : ℕ) (what : Happening)
    → turn_at w n (step_act h n what (w.stations n)) ≡ done_by h w (Some (arrival what n))
step_there h w n what = by (w.stations n).is_stopped
  where
    by : (b : Bool) → turn_at w n (if b then idle (w.stations n) else step_of (after h n (w.stations n) what))
        ≡ (if b then nothing w else stepped w n (after h n (w.stations n) what))
    by true = idle_there w n
    by false = refl

pub restart_there : (h : Hierarchy) (w : World) (n : ℕ) (kept : List Entry) (s : Station)
    → turn_at w n (restart_act h n kept s) ≡ restarted h w n kept s
restart_there h w n kept s = by (s.grants.boot == last_boot)
  where
    by : (b : Bool)
        → turn_at w n (if b then act (record s { is_stopped = true }) kept []
        else act (opened h n s.grants) (kept ++ opening_entries h n (opened h n s.grants)) [])
        ≡ (if b then changed w n (record s { is_stopped = true }) kept []
        else changed w n (opened h n s.grants) (kept ++ opening_entries h n (opened h n s.grants)) [])
    by true = refl
    by false = refl

module _ (h : Hierarchy) (w : World) (n : ℕ) where
  abbrev s : Station
  s = w.stations n

  abbrev made : Happening → Outcome
  made what = after h n s what

  -- A stop after the save.
  abbrev pub stopping : Option Coming → Doing
  stopping (Some c) = doing.StopAfter c
  stopping None = doing.Start

  stop_there : (what : Happening) → turn_at w n (stop_act h n what s)
      ≡ (if not s.is_stopped then restarted h w n (made what).kept (saved_only h n s what) else restarted h w n [] s)
  stop_there what = by s.is_stopped
    where
      by : (b : Bool)
          → turn_at w n (if b then restart_act h n [] s else restart_act h n (made what).kept (saved_only h n s what))
          ≡ (if not b then restarted h w n (made what).kept (saved_only h n s what) else restarted h w n [] s)
      by true = restart_there h w n [] s
      by false = restart_there h w n (made what).kept (saved_only h n s what)

  stops_for : (o : Option coming.Arrival) → turn_of h w
      (Some (record { station = n; doing = stopping (what_comes_to n o) }))
      ≡ stopped_behind h w n (option_map arrival_in o)
  stops_for None = restart_there h w n [] s
  stops_for (Some a) = by (a.station == n)
    where
      by : (b : Bool)
          → turn_of h w (Some (record { station = n; doing = stopping (if b then Some a.what else None) }))
          ≡ (if b && not s.is_stopped then restarted h w n (made (happening a.what)).kept
          (saved_only h n s (happening a.what)) else restarted h w n [] s)
      by true = stop_there (happening a.what)
      by false = restart_there h w n [] s

  pub stops_there : (o : Option coming.Arrival) (r : Option Coming) → r ≡ what_comes_to n o
      → turn_of h w (Some (record { station = n; doing = stopping r })) ≡ stopped_behind h w n (option_map arrival_in o)
  stops_there o r is = ap (λ r. turn_of h w (Some (record { station = n; doing = stopping r }))) is ∙ stops_for o

  -- A save that fails.
  abbrev pub failing_task : Plan → Option Coming → Option Task
  failing_task how (Some c) = Some (record { station = n; doing = doing.Fail how c })
  failing_task how None = None

  failed_there : (how : Plan) (what : Happening) → turn_at w n (failed_act h n how what s) ≡ failed h w n what how
  failed_there plan.Device what = refl
  failed_there plan.Before what = refl
  failed_there plan.After what = refl

  done_there : (m : ℕ) (what : Happening) → n ≡ m → s.is_stopped ≡ false
      → turn_at w n (step_of (made what)) ≡ done_by h w (Some (arrival what m))
  done_there m what same runs = subst (λ k. turn_at w n (step_of (made what)) ≡ done_by h w (Some (arrival what k)))
      same (sym (ap (λ b. if b then nothing w else stepped w n (made what)) runs))

  fail_runs : (how : Plan) (m : ℕ) (what : Happening) → n ≡ m → s.is_stopped ≡ false
      → turn_at w n (if is_some (made what).saved then failed_act h n how what s else step_of (made what))
      ≡ (if is_some (made what).saved then failed h w n what how else done_by h w (Some (arrival what m)))
  fail_runs how m what same runs = by (is_some (made what).saved)
    where
      by : (b : Bool) → turn_at w n (if b then failed_act h n how what s else step_of (made what))
          ≡ (if b then failed h w n what how else done_by h w (Some (arrival what m)))
      by true = failed_there how what
      by false = done_there m what same runs

  fails_for : (how : Plan) (o : Option coming.Arrival)
      → turn_of h w (failing_task how (what_comes_to n o)) ≡ failing h w n (option_map arrival_in o) how
  fails_for how None = refl
  fails_for how (Some a) = by (a.station == n) refl
    where
      at : (c : Bool) → s.is_stopped ≡ c → n ≡ a.station
          → turn_at w n
          (if c then idle s else (if is_some (made (happening a.what)).saved
          then failed_act h n how (happening a.what) s else step_of (made (happening a.what))))
          ≡ (if not c then (if is_some (made (happening a.what)).saved then failed h w n (happening a.what) how
          else done_by h w (Some (arrival (happening a.what) a.station))) else nothing w)
      at true is same = idle_there w n
      at false is same = fail_runs how a.station (happening a.what) same is

      by : (b : Bool) → (a.station == n) ≡ b → turn_of h w (failing_task how (if b then Some a.what else None))
          ≡ (if b && not s.is_stopped then (if is_some (made (happening a.what)).saved
          then failed h w n (happening a.what) how else done_by h w (Some (arrival (happening a.what) a.station)))
          else nothing w)
      by true is = at s.is_stopped refl (sym (eqb-true a.station n is))
      by false is = refl

  pub fails_there : (how : Plan) (o : Option coming.Arrival) (r : Option Coming) → r ≡ what_comes_to n o
      → turn_of h w (failing_task how r) ≡ failing h w n (option_map arrival_in o) how
  fails_there how o r is = ap (λ r. turn_of h w (failing_task how r)) is ∙ fails_for how o
