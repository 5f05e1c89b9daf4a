-- The words that a schedule line says by itself.
use Rattle.std.specs.Prelude.{ℕ, List, Option, Some, None, codes, option_map, if◌then◌else◌}
use Rattle.std.specs.Str.{bytes_eq}
use Rattle.smi_rows.specs.declared.Plan.{Plan}
use Rattle.smi_rows.specs.declared.Plan.TheVariants as plan
use Rattle.smi_protocol.specs.declared.item.Moment.{Moment}
use Rattle.smi_protocol.specs.declared.item.Moment.TheVariants as moment
use Rattle.smi_schedule.specs.declared.words.DeedWord.{DeedWord}
use Rattle.smi_schedule.specs.declared.words.DeedWord.TheVariants as deed
use Rattle.smi_schedule.specs.declared.words.LineWord.{LineWord}
use Rattle.smi_schedule.specs.declared.words.LineWord.TheVariants as line
use Rattle.smi_schedule.specs.declared.words.OrderWord.{OrderWord}
use Rattle.smi_schedule.specs.declared.words.OrderWord.TheVariants as order

-- what may be done now, or while a station stops or its save fails
abbrev pub deed_word : List ℕ → Option DeedWord
deed_word word =
    if bytes_eq word (codes "deliver") then Some deed.Deliver
    else (if bytes_eq word (codes "recent") then Some deed.Recent
    else (if bytes_eq word (codes "order") then Some deed.Order
    else (if bytes_eq word (codes "report") then Some deed.Report
    else (if bytes_eq word (codes "tick") then Some deed.Tick
    else None))))

-- what a line may begin with
abbrev pub line_word : List ℕ → Option LineWord
line_word word =
    if bytes_eq word (codes "restart") then Some line.Restart
    else (if bytes_eq word (codes "stop") then Some line.Stop
    else (if bytes_eq word (codes "fail") then Some line.Fail
    else option_map (λ which. line.Do which) (deed_word word)))

-- what an operator may order
abbrev pub order_word : List ℕ → Option OrderWord
order_word word =
    if bytes_eq word (codes "take") then Some order.Take
    else (if bytes_eq word (codes "drop") then Some order.Drop
    else (if bytes_eq word (codes "ask") then Some order.Ask
    else (if bytes_eq word (codes "do") then Some order.Do
    else (if bytes_eq word (codes "include") then Some order.Include
    else (if bytes_eq word (codes "exclude") then Some order.Exclude
    else (if bytes_eq word (codes "manual") then Some order.Manual
    else (if bytes_eq word (codes "ignore") then Some order.Ignore
    else (if bytes_eq word (codes "watch") then Some order.Watch
    else (if bytes_eq word (codes "unwatch") then Some order.Unwatch
    else None)))))))))

-- where a station stops: before its save lands, or after it
abbrev pub moment_of : List ℕ → Option Moment
moment_of word =
    if bytes_eq word (codes "before") then Some moment.Before
    else (if bytes_eq word (codes "after") then Some moment.After
    else None)

-- how a save fails
abbrev pub plan_of : List ℕ → Option Plan
plan_of word =
    if bytes_eq word (codes "device") then Some plan.Device
    else (if bytes_eq word (codes "before") then Some plan.Before
    else (if bytes_eq word (codes "after") then Some plan.After
    else None))
