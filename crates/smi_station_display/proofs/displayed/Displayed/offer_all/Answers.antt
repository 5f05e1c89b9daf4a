use Rattle.std.proofs.Common.{ℕ, ◌∙◌, ◌++◌, List, ap, sym}
use Rattle.std.specs.List.{flat_map, range_with_len}
use Rattle.smi_station_grants.specs.GrantTable.{grants_of}
use Rattle.smi_protocol.specs.Opening.{object_count}
use Rattle.smi_protocol.specs.Ticking.{Owed, domains_of, owed_question, owed_to_child, owed_to_domain, owed_watch}
use Rattle.smi_tree.specs.Lookups.{operators_of, parent_of}
use Rattle.smi_station_display.specs.Displayed.{display_of}
use Rattle.smi_station_display.specs.Sweeping.{Sweeping, offered, sweeping}
use Rattle.smi_station_display.proofs.Sweeps.{offered_twice}
use Rattle.smi_station_display.proofs.displayed.Displayed.offer_all.Goals as goal

pub returns : goal.returns
returns c =
    let s = c.args.self.now in
    let g = grants_of c.args.kept.now in
    let first = sweeping c.args.sweep.now c.args.out.now in
    let children : List Owed = flat_map (λ x. owed_to_child s.tree s.number g x (parent_of s.tree x))
    (domains_of s.tree) in
    let orders : List Owed = flat_map (λ o. flat_map (owed_to_domain s.tree s.number g o) (domains_of s.tree))
    (operators_of s.tree s.number) in
    let questions : List Owed = flat_map (λ o. owed_question s.tree s.number o ((display_of s).asks o))
    (operators_of s.tree s.number) in
    let watches : List Owed = flat_map (owed_watch s.tree s.number s.published.boot (display_of s))
    (range_with_len 1 (object_count s.tree)) in
    c.offer_watches.ensures
    ∙ ap (λ (w : Sweeping). offered w watches) c.offer_questions.ensures
    ∙ ap (λ (w : Sweeping). offered (offered w questions) watches) c.offer_orders.ensures
    ∙ ap (λ (w : Sweeping). offered (offered (offered w orders) questions) watches) c.offer_children.ensures
    ∙ ap (λ (w : Sweeping). offered (offered w questions) watches) (offered_twice first children orders)
    ∙ ap (λ (w : Sweeping). offered w watches) (offered_twice first (children ++ orders) questions)
    ∙ offered_twice first ((children ++ orders) ++ questions) watches
    ∙ ap (λ (boot : ℕ). offered first (((children ++ orders) ++ questions)
    ++ flat_map (owed_watch s.tree s.number boot (display_of s)) (range_with_len 1 (object_count s.tree))))
    (sym c.requires.boot)
