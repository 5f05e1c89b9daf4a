-- What an item makes at one station.
use Rattle.std.specs.Prelude.{ℕ, ◌≡◌, ◌⊎◌, false, List, [], Option, Some, None}
use Rattle.smi_tree.specs.Hierarchy.{Hierarchy}
use Rattle.smi_protocol.specs.Display.{Station}
use Rattle.smi_protocol.specs.declared.item.Moment.{Moment}
use Rattle.smi_protocol.specs.declared.item.Moment.TheVariants as moment
use Rattle.smi_protocol.specs.declared.item.Deed.{Deed}
use Rattle.smi_protocol.specs.declared.item.Item.{Item}
use Rattle.smi_protocol.specs.declared.item.Item.TheVariants as item
use Rattle.smi_protocol.specs.Schedule.{Arrival, World, Turn, arrival, arrival_of, nothing, restarted, stopped_behind}
use Rattle.smi_protocol.specs.Grants.{put}
use Rattle.smi_protocol.specs.Happening.{Happening}
use Rattle.smi_protocol.specs.Opening.{saved_only}
use Rattle.smi_world.specs.declared.post.Post.{Post}
use Rattle.smi_world.specs.Left.{Left, entries_left}
use Rattle.smi_world.specs.Posts.{ArePosts, Held, IsAt, IsPost}
use Rattle.smi_world.specs.Coming.{happening}
use Rattle.smi_world.specs.Turning.{Act, step_act, restart_act, stop_act, fail_act, turn_at}
use Rattle.smi_world.specs.declared.task.Doing.{Doing}
use Rattle.smi_world.specs.declared.task.Doing.TheVariants as doing
use Rattle.smi_world.specs.declared.task.Task.{Task}

abbrev pub act_of : Hierarchy → ℕ → Doing → Station → Act
act_of h number (doing.Come what) s = step_act h number (happening what) s
act_of h number doing.Start s = restart_act h number [] s
act_of h number (doing.StopAfter what) s = stop_act h number (happening what) s
act_of h number (doing.Fail how what) s = fail_act h number how (happening what) s

-- the world in which a station has made its part, if there is one
abbrev pub turn_of : Hierarchy → World → Option Task → Turn
turn_of h w None = nothing w
turn_of h w (Some t) = turn_at w t.station (act_of h t.station t.doing (w.stations t.station))

-- a station starts again, or stops after its save first
abbrev pub stopped_at : Hierarchy → World → ℕ → Moment → Option Arrival → Turn
stopped_at h w number moment.Before o = restarted h w number [] (w.stations number)
stopped_at h w number moment.After o = stopped_behind h w number o

-- After a stop that could not start again, the station stays stopped with what it has saved.
abbrev pub IsHalted : Hierarchy → ℕ → Post → Doing → Station → Type 0
IsHalted h number p (doing.StopAfter what) s =
    (s.is_stopped ≡ false) × IsPost h number p (saved_only h number s (happening what))
IsHalted h number p (doing.Come what) s = ⊥
IsHalted h number p doing.Start s = ⊥
IsHalted h number p (doing.Fail how what) s = ⊥

-- a station stops after its save only if that was asked, and in the step that comes
abbrev pub StopsFor : ℕ → Moment → Option Arrival → Doing → Type 0
StopsFor number when o (doing.StopAfter what) = (when ≡ moment.After) × (o ≡ Some (arrival (happening what) number))
StopsFor number when o (doing.Come what) = Unit {0}
StopsFor number when o doing.Start = Unit {0}
StopsFor number when o (doing.Fail how what) = Unit {0}

-- the item asks for a stop after the save, if the task is that
abbrev pub IsStopOf : Hierarchy → World → Item → ℕ → Doing → Type 0
IsStopOf h w x number (doing.StopAfter what) =
    (d : Deed) × (x ≡ item.Stop number moment.After d) × (arrival_of h w d ≡ Some (arrival (happening what) number))
IsStopOf h w x number (doing.Come what) = Unit {0}
IsStopOf h w x number doing.Start = Unit {0}
IsStopOf h w x number (doing.Fail how what) = Unit {0}

-- What an item makes of the stations as they are kept.
pub record Turned (h : Hierarchy) (posts : List Post) (l : Left) (t : Turn) : Type 0 where
  pub are : ArePosts h 1 posts t.world.stations
  pub entries : entries_left h l ≡ t.entries
  pub sends : l.out.datagrams ≡ t.sends

-- The same if memory was wanting to start a station that had stopped after its save: it stays stopped.
pub record Halted (h : Hierarchy) (posts : List Post) (w : World) (x : Item) : Type 0 where
  pub number : ℕ
  pub what : Happening
  pub deed : Deed
  pub is_stop : x ≡ item.Stop number moment.After deed
  pub comes : arrival_of h w deed ≡ Some (arrival what number)
  pub runs : (w.stations number).is_stopped ≡ false
  pub are : ArePosts h 1 posts (put w.stations number (saved_only h number (w.stations number) what))

-- An item was not made of that world: it is as before, or as after a stop that could not start again.
abbrev pub IsUnmade : Held → World → Item → Type 0
IsUnmade x w i = IsAt x w ⊎ Halted x.tree x.posts w i × (x.sent ≡ w.sent)
