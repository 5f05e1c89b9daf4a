use Rattle.std.proofs.Common.{rules, arith, ◌≡◌, ◌+◌, subst, sym, ℕ, Option, ◌++◌, ◌∷◌, []}
use mathlib.Core.Path.{fun_ext}
use Rattle.smi_tree.specs.Lookups.{domain_count, device_count}
use Rattle.smi_publish.proofs.FirstConditions.{Opened, Opened-more, opened_as, first_room}
use Rattle.smi_publish.specs.Published.{conditions_of, HasRoom}
use Rattle.smi_publish.specs.declared.condition.Condition.{Condition}
use Rattle.smi_publish.specs.Publishing.{first_condition}
use Rattle.smi_publish.proofs.publisher.Publisher.new.Goals as goal

pub loop-object-preserved : goal.loop-object-preserved
loop-object-preserved c =
    let pushed : c.push.new.self.items ≡ c.loop-object.conditions.items ++ c.first_condition.result
    ∷ [] = search rules in
    rw pushed (Opened-more c.args.tree.now c.args.station c.loop-object.object c.loop-object.conditions.items
    c.first_condition.result c.loop-object.invariant c.first_condition.ensures)

table_opened : (c : goal.After-loop-object)
    → conditions_of (record { boot = c.args.boot; table = c.loop-object.conditions.items })
    ≡ first_condition c.args.tree.now c.args.station
table_opened c =
    let tree = c.device_count.ensures.tree in
    let all : c.loop-object.object ≡ domain_count c.args.tree.now + device_count c.args.tree.now = omega arith in
    let opened : Opened c.args.tree.now c.args.station (domain_count c.args.tree.now + device_count c.args.tree.now)
    c.loop-object.conditions.items =
    subst (λ n. Opened c.args.tree.now c.args.station n c.loop-object.conditions.items) all c.loop-object.invariant in
    fun_ext (opened_as c.args.tree.now c.args.station c.loop-object.conditions.items tree opened)

pub returns-clause-opened : goal.returns-clause-opened
returns-clause-opened c = table_opened c

pub returns-clause-room : goal.returns-clause-room
returns-clause-room c = λ object.
    subst (λ (f : ℕ → Option Condition). HasRoom f object) (sym (table_opened c))
    (first_room c.args.tree.now c.args.station object)
