use Rattle.std.proofs.Common.{Ok, sym, ap, ◌∙◌, subst}
use Rattle.smi_protocol.specs.Loading.{Opens}
use Rattle.smi_station_grants.specs.Starting.{beginning_with}
use Rattle.smi_station_grants.proofs.Starts.{boot_or_not, boot_saved, doubtful}
use Rattle.smi_station.specs.Core.{Core}
use Rattle.smi_station.proofs.start.start.Goals as goal

pub returns-in-Ok-clause-opens : goal.returns-in-Ok-clause-opens
returns-in-Ok-clause-opens g c = λ honest. c.in_ok-core.ensures.opens (c.in-Ok.ensures.honest honest)

pub returns-in-Ok-clause-saved : goal.returns-in-Ok-clause-saved
returns-in-Ok-clause-saved g c = λ honest.
    let before = c.in-Ok.ensures.honest honest in
    let loaded = c.in_ok-core.ensures in
    let there = loaded.certain before (loaded.open before) in
    let saved = c.in-Ok.ensures.saved honest in (
      saved.0,
      boot_saved c.args.tree.now c.args.number (g.S.Stable.rows c.args.store.now)
          (g.S.Stable.rows c.loaded.new.store) c.core.inside.kept
          (subst (λ (x : Core). Opens c.args.tree.now c.args.number (g.S.Stable.rows c.args.store.now)
          (beginning_with c.args.tree.now c.args.number (Ok x.kept))) (sym c.core.view_is) (loaded.begins before))
          there.1 (ap (λ (x : Core). x.kept.number) c.core.view_is ∙ loaded.of.number)
          (g.S.Stable.rows c.save_boot.new.store) saved.1,
    )

pub returns-in-Ok-clause-crash : goal.returns-in-Ok-clause-crash
returns-in-Ok-clause-crash g c = λ honest live r may.
    let before = c.in-Ok.ensures.honest honest in
    let loaded = c.in_ok-core.ensures in
    let there = loaded.certain before live in
    boot_or_not c.args.tree.now c.args.number (g.S.Stable.rows c.args.store.now) (g.S.Stable.rows c.loaded.new.store)
    c.core.inside.kept
    (subst (λ (x : Core). Opens c.args.tree.now c.args.number (g.S.Stable.rows c.args.store.now)
    (beginning_with c.args.tree.now c.args.number (Ok x.kept))) (sym c.core.view_is) (loaded.begins before))
    there.1 (ap (λ (x : Core). x.kept.number) c.core.view_is ∙ loaded.of.number) r
    (c.in-Ok.ensures.crash honest there.0 r may)

pub returns-clause-unsure : goal.returns-clause-unsure
returns-clause-unsure g c = λ honest live still.
    let before = c.in-Err.ensures.honest honest in
    let loaded = c.in_ok-core.ensures in
    let there = loaded.certain before live in
    doubtful (Unit {0}) Core c.in-Err.fault
    (boot_or_not c.args.tree.now c.args.number (g.S.Stable.rows c.args.store.now)
    (g.S.Stable.rows c.loaded.new.store) c.core.inside.kept
    (subst (λ (x : Core). Opens c.args.tree.now c.args.number (g.S.Stable.rows c.args.store.now)
    (beginning_with c.args.tree.now c.args.number (Ok x.kept))) (sym c.core.view_is) (loaded.begins before))
    there.1 (ap (λ (x : Core). x.kept.number) c.core.view_is ∙ loaded.of.number)
    (g.S.Stable.rows c.save_boot.new.store))
    (c.in-Err.ensures.unsure honest still)

pub returns-clause-crash : goal.returns-clause-crash
returns-clause-crash g c = λ honest live r may.
    let before = c.in-Err.ensures.honest honest in
    let loaded = c.in_ok-core.ensures in
    let there = loaded.certain before live in
    boot_or_not c.args.tree.now c.args.number (g.S.Stable.rows c.args.store.now) (g.S.Stable.rows c.loaded.new.store)
    c.core.inside.kept
    (subst (λ (x : Core). Opens c.args.tree.now c.args.number (g.S.Stable.rows c.args.store.now)
    (beginning_with c.args.tree.now c.args.number (Ok x.kept))) (sym c.core.view_is) (loaded.begins before))
    there.1 (ap (λ (x : Core). x.kept.number) c.core.view_is ∙ loaded.of.number) r
    (c.in-Err.ensures.crash honest there.0 r may)
