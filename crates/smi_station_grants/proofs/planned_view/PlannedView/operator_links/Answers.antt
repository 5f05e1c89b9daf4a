use Rattle.std.proofs.Common.{◌≡◌, ℕ, ◌+◌, length, length-append, ap, sym, ◌∙◌, append-nil, arith, Option, Some, None}
use Rattle.std.proofs.Common.{List, [], ◌∷◌, ◌++◌, Vec}
use Rattle.std.specs.Option.{option_to_list}
use Rattle.std.specs.Global.{Global}
use Rattle.smi_grant.specs.declared.Holder.TheVariants.{Operator}
use Rattle.smi_rows.specs.declared.Mode.TheVariants.{Included}
use Rattle.smi_rows.specs.declared.StoredLink.{StoredLink}
use Rattle.smi_protocol.specs.SavedRows.{stored_if}
use Rattle.smi_station_grants.specs.Change.{after_of}
use Rattle.smi_station_grants.proofs.Listing.{range_listed}
use Rattle.smi_station_grants.proofs.planned_view.PlannedView.operator_links.Goals.{in-Some+in_ok-push-in-Some, in-None}
use Rattle.smi_station_grants.proofs.planned_view.PlannedView.operator_links.Goals as goal

pub loop-place-preserved : goal.loop-place-preserved
loop-place-preserved c =
    let f : ℕ → Option StoredLink = λ d. stored_if d ((after_of c.args.self.now).links (Operator c.args.operator) d)
    Included in
    let place = c.loop-place.place in
    let old = c.loop-place.links.items in
    let step = λ (o : Option StoredLink) (links : List StoredLink) (is
    : o ≡ stored_if (place + 1) c.link.result Included) (pushed : links ≡ old ++ option_to_list o).
    range_listed f old links place o c.loop-place.invariant.all
    (is ∙ ap (λ l. stored_if (place + 1) l Included) c.link.ensures) pushed in
    elim c.match-stored_if.branch [
      | in-Some+in_ok-push-in-Some w ↦
          let items = ap (λ (v : Vec StoredLink Global). v.items) w.links-is ∙ w.in_ok-push-in-Some.ensures.items in
          record {
            all = step (Some w.in-Some.stored) c.match-stored_if.links.items w.in-Some.ensures items;
            few = omega (arith, ap length items, length-append old (w.in-Some.stored ∷ []), c.loop-place.invariant.few);
          }
      | in-None w ↦
          let items = ap (λ (v : Vec StoredLink Global). v.items) w.links-is in
          record {
            all = step None c.match-stored_if.links.items w.in-None.ensures (items ∙ sym (append-nil old));
            few = omega (arith, ap length items, c.loop-place.invariant.few);
          }
    ]
