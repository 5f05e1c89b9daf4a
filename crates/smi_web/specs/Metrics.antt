-- How a picture reads to a monitor: Prometheus' text format, each metric with what it is and all its samples below.
use Rattle.std.specs.Prelude.{ℕ, ◌+◌, ◌-◌, ◌/◌, ◌%◌, nat_le, ◌++◌, List, [], Option, Some, None, codes, if◌then◌else◌}
use Rattle.std.specs.Option.{option_map_or}
use Rattle.std.specs.Fmt.{decimal}
use Rattle.smi_grant.specs.declared.Holder.{Holder}
use Rattle.smi_grant.specs.declared.Holder.TheVariants as holder
use Rattle.smi_grant.specs.declared.Phase.{Phase}
use Rattle.smi_grant.specs.declared.Phase.TheVariants as phase
use Rattle.smi_tree.specs.Hierarchy.{Hierarchy}
use Rattle.smi_tree.specs.Lookups.{device_count, domain_count, station_of}
use Rattle.smi_schedule.specs.TraceWords.{domain_word, object_word, state_word, station_word}
use Rattle.smi_view.specs.Pictured.{Pictured, domain_of, object_of}
use Rattle.smi_view.specs.declared.Hearing.{Hearing}
use Rattle.smi_view.specs.declared.Sight.{Sight}
use Rattle.smi_web.specs.declared.metrics.Metric.{Metric}
use Rattle.smi_web.specs.declared.metrics.ScreenFigures.{ScreenFigures}
use Rattle.smi_web.specs.declared.metrics.Metric.TheVariants as metric
use Rattle.smi_web.specs.Json.{listed, quoted}

-- milliseconds as seconds with three places
abbrev pub seconds_text : ℕ → List ℕ
seconds_text ms =
    decimal (ms / 1_000) ++ codes "." ++ decimal (ms / 100 % 10) ++ decimal (ms / 10 % 10) ++ decimal (ms % 10)

-- what is told of each domain in a number of its own
abbrev pub held_number : Holder → ℕ
held_number holder.Free = 0
held_number (holder.Operator o) = 1
held_number (holder.Domain d) = 1

abbrev pub busy_number : Phase → ℕ
busy_number phase.Settled = 0
busy_number phase.Busy = 1

abbrev pub value_text : Metric → ℕ → Hearing → List ℕ
value_text metric.Held now had = decimal (held_number had.«record».holder)
value_text metric.Busy now had = decimal (busy_number had.«record».phase)
value_text metric.Epoch now had = decimal had.«record».epoch
value_text metric.Outcome now had = decimal had.«record».outcome
value_text metric.Age now had = seconds_text (now - had.heard)

abbrev pub name_text : Metric → List ℕ
name_text metric.Held = codes "smi_domain_held"
name_text metric.Busy = codes "smi_domain_busy"
name_text metric.Epoch = codes "smi_domain_epoch"
name_text metric.Outcome = codes "smi_domain_outcome"
name_text metric.Age = codes "smi_domain_heard_age_seconds"

abbrev pub help_text : Metric → List ℕ
help_text metric.Held = codes "1 where somebody holds the domain, 0 where it is free."
help_text metric.Busy = codes "1 while the domain works on a command, else 0."
help_text metric.Epoch = codes "How often the domain has changed hands."
help_text metric.Outcome = codes "How the last command of the domain ended, 0 where it was done or is not settled."
help_text metric.Age = codes "How long ago the keeper of the domain was last heard."

-- what is above the samples of a metric
unfoldable pub head_text : List ℕ → List ℕ → List ℕ → List ℕ
head_text name help kind =
    codes "# HELP " ++ name ++ codes " " ++ help ++ codes "\n# TYPE " ++ name ++ codes " " ++ kind ++ codes "\n"

-- what an object is: numbers of domains come before those of devices
unfoldable pub kind_word : Hierarchy → ℕ → List ℕ
kind_word h x = if nat_le x (domain_count h) then codes "domain" else codes "device"

unfoldable pub kind_label : Hierarchy → ℕ → List ℕ
kind_label h x = codes ",kind=" ++ quoted (kind_word h x)

-- the station that keeps a domain
abbrev pub station_label : Hierarchy → ℕ → List ℕ
station_label h d = option_map_or (λ s. codes ",station=" ++ quoted (station_word h s)) (station_of h d) []

-- the name of the states' metric, and what an object is called and is
unfoldable pub object_labels : Hierarchy → ℕ → List ℕ
object_labels h x = codes "smi_object_state{object=" ++ quoted (object_word h x) ++ kind_label h x

-- 1 for a state in which an object is
abbrev pub in_state_sample : Hierarchy → (object state : ℕ) → List ℕ
in_state_sample h x s =
    object_labels h x ++ codes ",state=" ++ quoted (state_word h s) ++ codes "} 1\n"

-- the sample of the state that was seen; nothing if none was shown
abbrev pub seen_sample : Hierarchy → ℕ → Option Sight → List ℕ
seen_sample h x None = []
seen_sample h x (Some seen) = in_state_sample h x seen.shown.state

abbrev pub state_sample : Hierarchy → Pictured → ℕ → List ℕ
state_sample h p x = seen_sample h x (object_of p x)

-- the metric of a domain; nothing if it was never heard
abbrev pub heard_sample : Hierarchy → Metric → ℕ → ℕ → Option Hearing → List ℕ
heard_sample h metric now d None = []
heard_sample h metric now d (Some had) =
    name_text metric ++ codes "{domain=" ++ quoted (domain_word h d) ++ station_label h d ++ codes "} "
    ++ value_text metric now had ++ codes "\n"

abbrev pub metric_sample : Hierarchy → Pictured → Metric → ℕ → ℕ → List ℕ
metric_sample h p metric now d = heard_sample h metric now d (domain_of p d)

-- a metric with its samples
unfoldable pub metric_text : Hierarchy → Pictured → Metric → ℕ → List ℕ
metric_text h p metric now =
    head_text (name_text metric) (help_text metric) (codes "gauge")
    ++ listed [] (metric_sample h p metric now) (domain_count h)

-- a metric of the whole screen
unfoldable pub whole_text : List ℕ → List ℕ → List ℕ → ℕ → List ℕ
whole_text name help kind number = head_text name help kind ++ name ++ codes " " ++ decimal number ++ codes "\n"

-- how many pictures there were, how many datagrams the station refused for where they came from, and how many domains
-- there are
abbrev pub screen_text : Hierarchy → ScreenFigures → List ℕ
screen_text h f =
    whole_text (codes "smi_screen_frames_total") (codes "How many pictures the screen has made.") (codes "counter") f.number
    ++ whole_text (codes "smi_screen_foreign_datagrams_total") (codes "How many datagrams came to the screen from foreign sources.") (codes "counter") f.foreign
    ++ whole_text (codes "smi_screen_domains") (codes "How many domains the tree has.") (codes "gauge") (domain_count h)

-- the states of all objects
abbrev pub states_text : Hierarchy → Pictured → List ℕ
states_text h p =
    head_text (codes "smi_object_state") (codes "1 for the state in which a unit or a device is.") (codes "gauge")
    ++ listed [] (state_sample h p) (domain_count h + device_count h)

-- the metrics of all domains
abbrev pub domains_text : Hierarchy → Pictured → ℕ → List ℕ
domains_text h p now =
    metric_text h p metric.Held now
    ++ metric_text h p metric.Busy now
    ++ metric_text h p metric.Epoch now
    ++ metric_text h p metric.Outcome now
    ++ metric_text h p metric.Age now

-- all metrics of a picture, with the figures of its screen
abbrev pub metrics_text : Hierarchy → Pictured → ScreenFigures → List ℕ
metrics_text h p f = screen_text h f ++ states_text h p ++ domains_text h p f.now
