-- When an observer watches, asks and lets its station tick.
use Rattle.std.specs.Prelude.{ℕ, ◌+◌, ◌-◌, min, nat_lt, not, if◌then◌else◌, Bool, Option, Some, None}
use Rattle.smi_screen.specs.declared.poll_schedule.PollSchedule.{PollSchedule}

-- each object is watched once, by number
abbrev pub watch_next : PollSchedule → Option ℕ
watch_next s = if nat_lt s.watched s.objects then Some (s.watched + 1) else None

abbrev pub after_watch : PollSchedule → PollSchedule
after_watch s = if nat_lt s.watched s.objects then record s { watched = s.watched + 1 } else s

-- a round of questions is 100 milliseconds after the one before
abbrev pub is_round : PollSchedule → ℕ → Bool
is_round s now = not (nat_lt (now - s.asked_at) 100)

-- about twenty domains, or about each one once
abbrev pub questions : PollSchedule → ℕ → ℕ
questions s now = if is_round s now then min s.domains 20 else 0

abbrev pub after_round : PollSchedule → ℕ → PollSchedule
after_round s now = if is_round s now then record s { asked_at = now } else s

-- the domains are asked about by number, and after the last one the first again
abbrev pub domain_next : PollSchedule → ℕ
domain_next s = if nat_lt s.asked s.domains then s.asked + 1 else 1

abbrev pub after_domain : PollSchedule → PollSchedule
after_domain s = record s { asked = domain_next s }

-- a tick is 300 milliseconds after the one before
abbrev pub is_tick : PollSchedule → ℕ → Bool
is_tick s now = not (nat_lt (now - s.ticked_at) 300)

abbrev pub after_tick : PollSchedule → ℕ → PollSchedule
after_tick s now = if is_tick s now then record s { ticked_at = now } else s

-- nothing was done yet
abbrev pub new_schedule : (objects domains : ℕ) → PollSchedule
new_schedule objects domains =
    record { objects = objects; domains = domains; watched = 0; asked = 0; asked_at = 0; ticked_at = 0 }
