use Rattle.std.proofs.Common.{◌∙◌, ◌+◌, ◌-◌, ap, sym}
use Rattle.std.specs.List.{flat_map, range_with_len}
use Rattle.smi_station_grants.specs.GrantTable.{grants_of}
use Rattle.smi_protocol.specs.Ticking.{owed_to_domain}
use Rattle.smi_command.specs.declared.Link.{Link}
use Rattle.smi_station_display.specs.Sweeping.{Sweeping, domain_owed, offered, sweeping}
use Rattle.smi_station_display.proofs.Sweeps.{range_offered}
use Rattle.smi_station_display.proofs.displayed.Displayed.offer_links.Goals as goal

pub loop-place-preserved : goal.loop-place-preserved
loop-place-preserved c =
    let f = owed_to_domain c.args.self.now.tree c.args.self.now.number (grants_of c.args.kept.now) c.args.operator in
    let n = c.domain_count-place-end.result in
    let i = c.loop-place.place in
    ap (λ (s : Sweeping). offered s (flat_map f (range_with_len (i + 1 + 1) (n - (i + 1))))) c.offer_to_domain.ensures
    ∙ ap (λ (l : Link). offered (offered (sweeping c.loop-place.sweep c.loop-place.out)
    (domain_owed c.args.self.now.tree c.args.self.now.number c.args.operator (i + 1) l))
    (flat_map f (range_with_len (i + 1 + 1) (n - (i + 1))))) c.link-link.ensures
    ∙ sym (range_offered (sweeping c.loop-place.sweep c.loop-place.out) f n i c.loop-place-test.true)
    ∙ c.loop-place.invariant
