-- What a step leaves after its save, and what a start leaves, is about states and answers alone.
use Rattle.std.proofs.Common.{ℕ, List, [], ◌∷◌}
use Rattle.std.specs.Prelude.{◌++◌, Option, Some, None, map}
use Rattle.std.specs.List.{flat_map}
use Rattle.smi_grant.specs.declared.Shown.{Shown}
use Rattle.smi_grant.specs.Record.{Standing}
use Rattle.smi_tree.specs.Hierarchy.{Hierarchy}
use Rattle.smi_protocol.specs.Display.{Station}
use Rattle.smi_protocol.specs.GrantsOf.{grant_step}
use Rattle.smi_protocol.specs.Happening.{Happening, told_entries}
use Rattle.smi_protocol.specs.Opening.{opening_entries, all_shown, first_opened}
use Rattle.smi_protocol.specs.Showing.{domain_of_happening, passed_in}
use Rattle.smi_protocol.specs.Step.{refusal_answers, notice, conditions_after, answered_or, showed_entries}
use Rattle.smi_protocol.specs.declared.Answer.{Answer}
use Rattle.smi_protocol.specs.declared.Entry.{Entry}
use Rattle.smi_protocol.specs.declared.Entry.TheVariants as entry
use Rattle.smi_protocol.specs.declared.Entry.TheVariants.{Booted, Granted, Freed, Ordered, Ran, Learned, LetGo}
use Rattle.smi_protocol.specs.declared.Entry.TheVariants.{InMode, Settled, Showed, Passed, Told}
use Rattle.smi_law.proofs.OrderSteps.{NoOrders}
use Rattle.smi_law.proofs.Quiet.{AllQuiet}
use Rattle.smi_law.proofs.RunSteps.{NoRuns}
use Rattle.smi_law.proofs.Working.{AllAside}

-- the entry is about states, answers or a start
abbrev pub IsDisplay : Entry → Type 0
IsDisplay (Booted s b) = Unit {0}
IsDisplay (Showed s v) = Unit {0}
IsDisplay (Passed v) = Unit {0}
IsDisplay (Told o t) = Unit {0}
IsDisplay (Granted x e who) = ⊥
IsDisplay (Freed x e) = ⊥
IsDisplay (Ordered o x e n c) = ⊥
IsDisplay (Ran x e n c) = ⊥
IsDisplay (Learned who x e) = ⊥
IsDisplay (LetGo who x e) = ⊥
IsDisplay (InMode x m) = ⊥
IsDisplay (Settled x e n code) = ⊥

abbrev pub AllDisplay : List Entry → Type 0
AllDisplay [] = Unit {0}
AllDisplay (y ∷ more) = IsDisplay y × AllDisplay more

display_both : (xs ys : List Entry) → AllDisplay xs → AllDisplay ys → AllDisplay (xs ++ ys)
display_both [] ys a b = b
display_both (x ∷ xs) ys a b = (a.0, display_both xs ys a.1 b)

-- So are the entries of which that was said.

told_display : (answers : List Answer) → AllDisplay (told_entries answers)
told_display [] = tt
told_display (a ∷ answers) = (tt, told_display answers)

passed_display : (passed : List Shown) → AllDisplay (map entry.Passed passed)
passed_display [] = tt
passed_display (s ∷ passed) = (tt, passed_display passed)

showed_display : (number : ℕ) (shown : Option Shown) → AllDisplay (showed_entries number shown)
showed_display number None = tt
showed_display number (Some s) = (tt, tt)

all_display : (number : ℕ) (shown : Option Shown) (passed : List Shown) (answers : List Answer)
    → AllDisplay (showed_entries number shown ++ map entry.Passed passed ++ told_entries answers)
all_display number shown passed answers =
    display_both (showed_entries number shown ++ map entry.Passed passed) (told_entries answers)
    (display_both (showed_entries number shown) (map entry.Passed passed) (showed_display number shown)
    (passed_display passed))
    (told_display answers)

pub after_display : (h : Hierarchy) (number : ℕ) (s : Station) (what : Happening) (o : Option ℕ)
    → AllDisplay (answered_or h number s what o).after
after_display h number s what (Some code) = told_display (refusal_answers what code)
after_display h number s what None =
    let g = grant_step h number s.grants what in
    let n = notice h number s.grants s.display what in
    let conditions = conditions_after h s g.grants n.display what in
    all_display number n.showed (passed_in h s.grants.boot s.display.conditions conditions
    (domain_of_happening h what)) (g.answers ++ n.answers)

pub opening_display : (h : Hierarchy) (number : ℕ) (s : Station) → AllDisplay (opening_entries h number s)
opening_display h number s = (tt, passed_display (all_shown h s))

pub openings_display : (h : Hierarchy) (numbers : List ℕ)
    → AllDisplay (flat_map (λ number. opening_entries h number (first_opened h number)) numbers)
openings_display h [] = tt
openings_display h (number ∷ numbers) = display_both (opening_entries h number (first_opened h number)) _
    (opening_display h number (first_opened h number)) (openings_display h numbers)

-- They say nothing of grants, runs, orders and modes.

pub quiet_display : (new : List Entry) → AllDisplay new → AllQuiet new
quiet_display [] d = tt
quiet_display (Booted s b ∷ new) d = (tt, quiet_display new d.1)
quiet_display (Showed s v ∷ new) d = (tt, quiet_display new d.1)
quiet_display (Passed v ∷ new) d = (tt, quiet_display new d.1)
quiet_display (Told o t ∷ new) d = (tt, quiet_display new d.1)
quiet_display (Granted x e who ∷ new) d = absurd d.0
quiet_display (Freed x e ∷ new) d = absurd d.0
quiet_display (Ordered o x e n c ∷ new) d = absurd d.0
quiet_display (Ran x e n c ∷ new) d = absurd d.0
quiet_display (Learned who x e ∷ new) d = absurd d.0
quiet_display (LetGo who x e ∷ new) d = absurd d.0
quiet_display (InMode x m ∷ new) d = absurd d.0
quiet_display (Settled x e n code ∷ new) d = absurd d.0

pub none_display : (new : List Entry) → AllDisplay new → NoRuns new
none_display [] d = tt
none_display (Booted s b ∷ new) d = (tt, none_display new d.1)
none_display (Showed s v ∷ new) d = (tt, none_display new d.1)
none_display (Passed v ∷ new) d = (tt, none_display new d.1)
none_display (Told o t ∷ new) d = (tt, none_display new d.1)
none_display (Granted x e who ∷ new) d = absurd d.0
none_display (Freed x e ∷ new) d = absurd d.0
none_display (Ordered o x e n c ∷ new) d = absurd d.0
none_display (Ran x e n c ∷ new) d = absurd d.0
none_display (Learned who x e ∷ new) d = absurd d.0
none_display (LetGo who x e ∷ new) d = absurd d.0
none_display (InMode x m ∷ new) d = absurd d.0
none_display (Settled x e n code ∷ new) d = absurd d.0

pub orders_display : (new : List Entry) → AllDisplay new → NoOrders new
orders_display [] d = tt
orders_display (Booted s b ∷ new) d = (tt, orders_display new d.1)
orders_display (Showed s v ∷ new) d = (tt, orders_display new d.1)
orders_display (Passed v ∷ new) d = (tt, orders_display new d.1)
orders_display (Told o t ∷ new) d = (tt, orders_display new d.1)
orders_display (Granted x e who ∷ new) d = absurd d.0
orders_display (Freed x e ∷ new) d = absurd d.0
orders_display (Ordered o x e n c ∷ new) d = absurd d.0
orders_display (Ran x e n c ∷ new) d = absurd d.0
orders_display (Learned who x e ∷ new) d = absurd d.0
orders_display (LetGo who x e ∷ new) d = absurd d.0
orders_display (InMode x m ∷ new) d = absurd d.0
orders_display (Settled x e n code ∷ new) d = absurd d.0

pub aside_display : (h : Hierarchy) (p : ℕ) (r : Standing) (new : List Entry) → AllDisplay new → AllAside h p r new
aside_display h p r [] d = tt
aside_display h p r (Booted s b ∷ new) d = (tt, aside_display h p r new d.1)
aside_display h p r (Showed s v ∷ new) d = (tt, aside_display h p r new d.1)
aside_display h p r (Passed v ∷ new) d = (tt, aside_display h p r new d.1)
aside_display h p r (Told o t ∷ new) d = (tt, aside_display h p r new d.1)
aside_display h p r (Granted x e who ∷ new) d = absurd d.0
aside_display h p r (Freed x e ∷ new) d = absurd d.0
aside_display h p r (Ordered o x e n c ∷ new) d = absurd d.0
aside_display h p r (Ran x e n c ∷ new) d = absurd d.0
aside_display h p r (Learned who x e ∷ new) d = absurd d.0
aside_display h p r (LetGo who x e ∷ new) d = absurd d.0
aside_display h p r (InMode x m ∷ new) d = absurd d.0
aside_display h p r (Settled x e n code ∷ new) d = absurd d.0
