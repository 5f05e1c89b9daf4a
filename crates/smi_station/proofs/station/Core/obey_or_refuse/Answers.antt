use Rattle.std.proofs.Common.{◌≡◌, ◌∙◌, ◌++◌, ◌∷◌, [], Ok, Some, false, ap, sym, subst}
use Rattle.std.specs.Prelude.{Option}
use Rattle.smi_station_grants.specs.GrantTable.{grants_of}
use Rattle.smi_protocol.specs.Happening.{Orders}
use Rattle.smi_protocol.specs.Refusals.{refusal_of}
use Rattle.smi_protocol.specs.Step.{Out, nothing_out, accepted, after}
use Rattle.smi_protocol.specs.declared.event.Heard.TheVariants.{Refused}
use Rattle.smi_station.specs.Core.{Core, IsCore, Steps, core_with, number_of, station_of, station_with, tree_of}
use Rattle.smi_protocol.specs.declared.order.Answer.{Answer}
use Rattle.smi_rows.specs.Store.{Saved}
use Rattle.smi_station_decide.specs.Decided.{refused_by}
use Rattle.smi_station_grants.specs.Leaving.{Leaves}
use Rattle.smi_station.proofs.Steps.{made_core, made_steps, made_tidy, runs_on, refused_saves, refused_steps, rests}
use Rattle.smi_station.proofs.Steps.{running, stands, taken_saves, taken_steps}
use Rattle.smi_station_grants.specs.Save.{IfMemory}
use Rattle.std.specs.Prelude.{is_some, true}
use Rattle.smi_station.proofs.station.Core.obey_or_refuse.Goals as goal

pub invariant_of-self : goal.invariant_of-self
invariant_of-self g c =
    let i = c.self.inside in
    let runs = running i.kept i.display i.is_stopped c.args.self.now c.self.view_is c.requires.runs in
    subst (λ b. IsCore (core_with c.accept_order.new.kept c.accept_order.new.display b)) (sym runs)
    (made_core i.kept c.accept_order.new.kept i.display c.accept_order.new.display false c.accept_order.result
    c.self.invariant.halves
    (c.self.invariant.room runs) c.accept_order.ensures.halves
    (runs_on c.accept_order.new.display c.accept_order.result c.accept_order.ensures.room)
    c.accept_order.ensures.unchanged
    (made_tidy i.kept c.accept_order.new.kept i.display c.accept_order.new.display false (Orders
    c.args.operator c.args.order.now)
    c.accept_order.result c.accept_order.ensures.station c.accept_order.ensures.same
    c.accept_order.ensures.unchanged c.self.invariant.tidy))

pub accept_order-requires-clause-room : goal.accept_order-requires-clause-room
accept_order-requires-clause-room g c =
    let i = c.self.inside in
    c.self.invariant.room (running i.kept i.display i.is_stopped c.args.self.now c.self.view_is c.requires.runs)

pub returns-in-Err-clause-step : goal.returns-in-Err-clause-step
returns-in-Err-clause-step g c =
    refused_steps c.args.self.now (Orders c.args.operator c.args.order.now) c.in-Err.code c.answer.new.self
    (subst (λ (before : Core). refusal_of (tree_of before) (number_of before) (grants_of before.kept)
    (Orders c.args.operator c.args.order.now) ≡ Some c.in-Err.code) c.self.view_is
    (sym c.decide_order.ensures.refused ∙ ap refused_by c.in-Err.is))
    (c.answer.ensures ∙ ap (λ (o : Out). record o { answers = o.answers ++ c.refusal.result ∷ [] }) c.requires.empty
    ∙ ap (λ (a : Answer). record nothing_out { answers = a ∷ [] }) c.refusal.ensures)

pub returns-in-Err-clause-store : goal.returns-in-Err-clause-store
returns-in-Err-clause-store g c =
    subst (λ (row : Option Saved). Leaves g.S.Stable.is_honest g.S.Stable.is_open g.S.Stable.rows g.S.Stable.may_find
    g.S.Stable.saves g.S.Stable.failures g.S.Stable.doubts c.args.store.now c.args.store.now (Ok (Refused
    c.in-Err.code)) row)
    (sym (refused_saves c.args.self.now (Orders c.args.operator c.args.order.now) c.in-Err.code
    (subst (λ (before : Core). refusal_of (tree_of before) (number_of before) (grants_of before.kept)
    (Orders c.args.operator c.args.order.now) ≡ Some c.in-Err.code) c.self.view_is
    (sym c.decide_order.ensures.refused ∙ ap refused_by c.in-Err.is))))
    (rests g.S.Stable.is_honest g.S.Stable.is_open g.S.Stable.rows g.S.Stable.may_find g.S.Stable.saves
    g.S.Stable.failures g.S.Stable.doubts g.met.S.Stable.rests c.args.store.now (Ok (Refused c.in-Err.code)) tt)

pub returns-in-Ok-clause-step : goal.returns-in-Ok-clause-step
returns-in-Ok-clause-step g c =
    let i = c.self.inside in
    let runs = running i.kept i.display i.is_stopped c.args.self.now c.self.view_is c.requires.runs in
    stands i.kept i.display i.is_stopped c.args.self.now c.self.view_is c.requires.runs
    (λ (before : Core). Steps before (core_with c.accept_order.new.kept c.accept_order.new.display i.is_stopped)
    (after (tree_of before) (number_of before) (station_of before) (Orders c.args.operator c.args.order.now))
    c.accept_order.new.out c.accept_order.result)
    (taken_steps (core_with i.kept i.display false) (core_with c.accept_order.new.kept
    c.accept_order.new.display i.is_stopped)
    (Orders c.args.operator c.args.order.now) c.accept_order.new.out c.accept_order.result
    (sym c.decide_order.ensures.refused ∙ ap refused_by c.in-Ok.is)
    (subst (λ b. Steps (core_with i.kept i.display false) (core_with c.accept_order.new.kept
    c.accept_order.new.display b)
    (accepted i.kept.tree i.kept.number (station_with i.kept i.display false)
    (Orders c.args.operator c.args.order.now)) c.accept_order.new.out c.accept_order.result) (sym runs)
    (made_steps _ i.kept c.accept_order.new.kept i.display c.accept_order.new.display false
    (accepted i.kept.tree i.kept.number (station_with i.kept i.display false)
    (Orders c.args.operator c.args.order.now)) c.accept_order.new.out c.accept_order.result
    c.accept_order.ensures.station c.accept_order.ensures.heard c.accept_order.ensures.out
    c.accept_order.ensures.same c.accept_order.ensures.unchanged
    c.accept_order.ensures.cleared)))

pub returns-in-Ok-clause-store : goal.returns-in-Ok-clause-store
returns-in-Ok-clause-store g c =
    let i = c.self.inside in
    stands i.kept i.display i.is_stopped c.args.self.now c.self.view_is c.requires.runs
    (λ (before : Core). Leaves g.S.Stable.is_honest g.S.Stable.is_open g.S.Stable.rows g.S.Stable.may_find
    g.S.Stable.saves g.S.Stable.failures g.S.Stable.doubts c.args.store.now c.accept_order.new.store
    c.accept_order.result
    (after (tree_of before) (number_of before) (station_of before) (Orders c.args.operator c.args.order.now)).saved)
    (subst (λ (row : Option Saved). Leaves g.S.Stable.is_honest g.S.Stable.is_open g.S.Stable.rows g.S.Stable.may_find
    g.S.Stable.saves g.S.Stable.failures g.S.Stable.doubts c.args.store.now c.accept_order.new.store
    c.accept_order.result row)
    (sym (taken_saves (core_with i.kept i.display false) (Orders c.args.operator c.args.order.now)
    (sym c.decide_order.ensures.refused ∙ ap refused_by c.in-Ok.is))) c.accept_order.ensures.store)

pub returns-in-Ok-clause-memory : goal.returns-in-Ok-clause-memory
returns-in-Ok-clause-memory g c =
    let i = c.self.inside in
    stands i.kept i.display i.is_stopped c.args.self.now c.self.view_is c.requires.runs
    (λ (before : Core). IfMemory c.accept_order.result
    (is_some (after (tree_of before) (number_of before) (station_of before)
    (Orders c.args.operator c.args.order.now)).saved ≡ true))
    (subst (λ (row : Option Saved). IfMemory c.accept_order.result (is_some row ≡ true))
    (sym (taken_saves (core_with i.kept i.display false) (Orders c.args.operator c.args.order.now)
    (sym c.decide_order.ensures.refused ∙ ap refused_by c.in-Ok.is))) c.accept_order.ensures.memory)
