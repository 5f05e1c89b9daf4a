-- A world stays one that can be reached, whatever item is made of it.
use Rattle.std.proofs.Common.{ℕ, ◌≡◌, Bool, true, false, List, [], ◌++◌, Some, None, Option, Result, Ok, Err, length}
use Rattle.std.proofs.Common.{inl, inr, append-nil, refl, sym, ap, ◌∙◌, subst}
use Rattle.std.specs.Prelude.{◌==◌, ◌⊎◌, is_ok, is_some, if◌then◌else◌, OnErr, OnOk}
use Rattle.smi_message.specs.Message.{Message, last_boot}
use Rattle.smi_tree.specs.Hierarchy.{Hierarchy}
use Rattle.smi_tree.specs.Lawful.{IsTree}
use Rattle.smi_tree.specs.Lookups.{station_count}
use Rattle.smi_rows.specs.declared.Plan.{Plan}
use Rattle.smi_rows.specs.declared.Plan.TheVariants as plan
use Rattle.smi_protocol.specs.Display.{Station}
use Rattle.smi_protocol.specs.Happening.{Happening}
use Rattle.smi_protocol.specs.Opening.{first_opened, opened, opening_entries, saved_only}
use Rattle.smi_protocol.specs.Step.{after}
use Rattle.smi_protocol.specs.declared.entry.Entry.{Entry}
use Rattle.smi_protocol.specs.declared.item.Item.{Item}
use Rattle.smi_protocol.specs.declared.item.Item.TheVariants as item
use Rattle.smi_protocol.specs.declared.item.Moment.TheVariants as moment
use Rattle.smi_protocol.specs.Schedule.{Arrival, World, Turn, arrival_of, changed, done_by, failed, failing}
use Rattle.smi_protocol.specs.Schedule.{first_world}
use Rattle.smi_protocol.specs.Schedule.{is_at, nothing, opening_of, restarted, stepped, stopped_behind, turn}
use Rattle.smi_law.specs.World.{MayCome, Reaches, goes_on, noted, opens, stops, with_station}
use Rattle.smi_law.proofs.Bridge.{Arrives, arrives, turned}
use Rattle.smi_world.specs.Left.{Left}
use Rattle.smi_world.specs.Posts.{ArePosts, IsAt, IsMade, IsReached, held}
use Rattle.smi_world.specs.Tasks.{Halted, Turned}
use Rattle.smi_world.specs.declared.post.Post.{Post}

-- what an item sends is sent
abbrev Sends : World → Turn → Type 0
Sends w t = t.world.sent ≡ w.sent ++ t.sends

module _ (h : Hierarchy) (w : World) where
  none_sent : Sends w (nothing w)
  none_sent = sym (append-nil w.sent)

  done_sends : (o : Option Arrival) → Sends w (done_by h w o)
  done_sends None = none_sent
  done_sends (Some x) = by (w.stations x.station).is_stopped
    where
      by : (b : Bool)
          → Sends w (if b then nothing w else stepped w x.station (after h x.station (w.stations x.station) x.what))
      by true = none_sent
      by false = refl

  restart_sends : (n : ℕ) (kept : List Entry) (s : Station) → Sends w (restarted h w n kept s)
  restart_sends n kept s = by (s.grants.boot == last_boot)
    where
      by : (b : Bool)
          → Sends w (if b then changed w n (record s { is_stopped = true }) kept []
          else changed w n (opened h n s.grants) (kept ++ opening_entries h n (opened h n s.grants)) [])
      by true = refl
      by false = refl

  stop_sends : (n : ℕ) (o : Option Arrival) → Sends w (stopped_behind h w n o)
  stop_sends n None = restart_sends n [] (w.stations n)
  stop_sends n (Some x) = by (is_at w n (Some x))
    where
      by : (b : Bool)
          → Sends w (if b then restarted h w n (after h n (w.stations n) x.what).kept
          (saved_only h n (w.stations n) x.what) else restarted h w n [] (w.stations n))
      by true = restart_sends n (after h n (w.stations n) x.what).kept (saved_only h n (w.stations n) x.what)
      by false = restart_sends n [] (w.stations n)

  failed_sends : (n : ℕ) (what : Happening) (how : Plan) → Sends w (failed h w n what how)
  failed_sends n what plan.Device = refl
  failed_sends n what plan.Before = refl
  failed_sends n what plan.After = refl

  fail_sends : (n : ℕ) (o : Option Arrival) (how : Plan) → Sends w (failing h w n o how)
  fail_sends n None how = none_sent
  fail_sends n (Some x) how = by (is_at w n (Some x))
    where
      saves : (b : Bool) → Sends w (if b then failed h w n x.what how else done_by h w (Some x))
      saves true = failed_sends n x.what how
      saves false = done_sends (Some x)

      by : (b : Bool)
          → Sends w (if b then (if is_some (after h n (w.stations n) x.what).saved then failed h w n x.what how
          else done_by h w (Some x)) else nothing w)
      by true = saves (is_some (after h n (w.stations n) x.what).saved)
      by false = none_sent

  turn_sends : (x : Item) → Sends w (turn h w x)
  turn_sends (item.Do what) = done_sends (arrival_of h w what)
  turn_sends (item.Restart n) = restart_sends n [] (w.stations n)
  turn_sends (item.Stop n moment.Before what) = restart_sends n [] (w.stations n)
  turn_sends (item.Stop n moment.After what) = stop_sends n (arrival_of h w what)
  turn_sends (item.Fail n how what) = fail_sends n (arrival_of h w what) how

  -- what was made, with what was sent
  pub made_is : {X Y : Type 0} (r : Result X Y) (before posts : List Post) (sent new : List Message) (l : Left)
      (x : Item) → IsAt (held h before sent) w → length posts ≡ length before → l.before ≡ length sent
      → Turned h posts l (turn h w x) → new ≡ (if is_ok r then sent ++ l.out.datagrams else sent)
      → OnOk r (IsMade (held h posts new) l w (turn h w x))
  made_is (Err fault) before posts sent new l x at count numbered made grown = tt
  made_is (Ok u) before posts sent new l x at count numbered made grown = record {
    is = record {
      count = count ∙ at.count;
      posts = made.are;
      sent = grown ∙ ap (λ (ms : List Message). ms ++ l.out.datagrams) at.sent
          ∙ ap (λ (ms : List Message). w.sent ++ ms) made.sends ∙ sym (turn_sends x);
    };
    entries = made.entries;
    sends = made.sends;
    before = numbered ∙ ap length at.sent;
  }

-- all stations have started once
pub first_reached : (h : Hierarchy) (posts : List Post) (sent : List Message) → length posts ≡ station_count h
    → ArePosts h 1 posts (first_opened h) → sent ≡ [] → IsReached (held h posts sent)
first_reached h posts sent count are none = record {
  past = noted (opening_of h) [];
  world = first_world h;
  is = record { count = count; posts = are; sent = none };
  reached = opens;
}

module _ (h : Hierarchy) (tree : IsTree h) (past : List Entry) (w : World) (run : Reaches h past w) where
  may_come : (x : Option Arrival) (a : Arrival) → Arrives w x → x ≡ Some a → MayCome w a.what
  may_come x a comes is = subst (Arrives w) is comes

  halted_reached : (posts : List Post) (sent : List Message) (x : Item) → length posts ≡ station_count h
      → Halted h posts w x → sent ≡ w.sent → IsReached (held h posts sent)
  halted_reached posts sent x count halted same = record {
    past = noted (after h halted.number (w.stations halted.number) halted.what).kept past;
    world = with_station w halted.number (saved_only h halted.number (w.stations halted.number) halted.what);
    is = record { count = count; posts = halted.are; sent = same };
    reached = goes_on run (stops halted.number halted.what halted.runs
        (may_come (arrival_of h w halted.deed) _ (arrives h w halted.deed) halted.comes));
  }

  -- what an item was made of, or was not, is a world that can be reached
  pub still_reached : {X Y : Type 0} (r : Result X Y) (before posts : List Post) (old sent : List Message) (l : Left)
      (x : Item) → IsAt (held h before old) w → length posts ≡ length before
      → OnOk r (IsMade (held h posts sent) l w (turn h w x))
      → OnErr r (IsAt (held h posts sent) w ⊎ Halted h posts w x × (sent ≡ old)) → IsReached (held h posts sent)
  still_reached (Ok u) before posts old sent l x at count made unmade = record {
    past = noted (turn h w x).entries past;
    world = (turn h w x).world;
    is = made.is;
    reached = turned h tree past w run x;
  }
  still_reached (Err e) before posts old sent l x at count made (inl same) =
      record { past = past; world = w; is = same; reached = run }
  still_reached (Err e) before posts old sent l x at count made (inr halted) =
      halted_reached posts sent x (count ∙ at.count) halted.0 (halted.1 ∙ at.sent)
