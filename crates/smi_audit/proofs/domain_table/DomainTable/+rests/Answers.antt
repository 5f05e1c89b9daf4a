use Rattle.std.proofs.Common.{◌-◌, sym, ap, ◌∙◌}
use Rattle.smi_audit.specs.Kept.{accounts_of}
use Rattle.smi_audit.specs.Tables.{is_held, is_behind, rests}
use Rattle.smi_audit.specs.declared.grant_state.GrantState.{GrantState}
use Rattle.smi_audit.proofs.Rests.{rests_none, rests_held, rests_loose}
use Rattle.smi_audit.proofs.domain_table.DomainTable.+rests.Goals as goal

pub rests-returns-then-levels-eq0 : goal.rests-returns-then-levels-eq0
rests-returns-then-levels-eq0 t c =
    rests_none c.args.levels c.args.self.now.tree (accounts_of c.args.self.now) c.args.domain c.args.number
    c.args.command c.if-levels-eq0.true

pub rests-returns-then-is_held : goal.rests-returns-then-is_held
rests-returns-then-is_held t c =
    rests_held c.args.levels c.args.self.now.tree (accounts_of c.args.self.now) c.args.domain c.args.number
    c.args.command c.is_behind.result c.if-levels-eq0.false
    (ap (λ (r : GrantState). is_held r.stage) (sym c.state-state.ensures) ∙ sym c.is_held.ensures ∙ c.if-is_held.true)
    (c.is_behind.ensures
    ∙ ap (λ (r : GrantState). is_behind c.args.self.now.tree (accounts_of c.args.self.now) c.args.domain c.args.number
    c.args.command (λ p. rests (c.args.levels - 1) c.args.self.now.tree (accounts_of c.args.self.now) p
    (accounts_of c.args.self.now p).ran c.args.command) r.holder) c.state-state.ensures)

pub rests-returns-else-is_held : goal.rests-returns-else-is_held
rests-returns-else-is_held t c =
    c.if-is_held.false
    ∙ rests_loose c.args.levels c.args.self.now.tree (accounts_of c.args.self.now) c.args.domain c.args.number
    c.args.command c.if-levels-eq0.false
    (ap (λ (r : GrantState). is_held r.stage) (sym c.state-state.ensures) ∙ sym c.is_held.ensures ∙ c.if-is_held.false)
