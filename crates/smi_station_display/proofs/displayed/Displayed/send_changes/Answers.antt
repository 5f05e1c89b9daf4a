use Rattle.std.proofs.Common.{◌∙◌, ◌+◌, List, drop, get_or, ap, sym, subst}
use Rattle.std.specs.List.{AllByRecursion, flat_map}
use Rattle.smi_grant.specs.declared.Shown.{Shown}
use Rattle.smi_message.specs.Message.{Message}
use Rattle.smi_station_output.specs.Out.{sent_after}
use Rattle.smi_station_output.proofs.Sending.{sent_twice}
use Rattle.smi_protocol.specs.Showing.{shown_to_all}
use Rattle.smi_protocol.specs.SoundDisplay.{IsShown}
use Rattle.smi_protocol.specs.Step.{Out}
use Rattle.smi_station_display.proofs.Listing.{drop_next}
use Rattle.smi_station_display.proofs.displayed.Displayed.send_changes.Goals as goal

pub loop-shown-preserved : goal.loop-shown-preserved
loop-shown-preserved c =
    let s = c.args.self.now in
    let xs = c.args.changes.now in
    let i = c.loop-shown.shown-index in
    let out = c.loop-shown.out in
    let told = shown_to_all s.tree s.number s.watchers in
    let rest = flat_map told (drop (i + 1) xs) in
    let next = drop_next xs i _ c.loop-shown-test.true in
    record {
      all =
          ap (λ (o : Out). record o { datagrams = sent_after o.datagrams rest }) c.show_to_all.ensures
          ∙ ap (λ (ms : List Message). record out { datagrams = ms })
          (sent_twice out.datagrams (told (get_or xs i _)) rest
          ∙ ap (λ (ys : List Shown). sent_after out.datagrams (flat_map told ys)) (sym next))
          ∙ c.loop-shown.invariant.all;
      each = (subst (AllByRecursion (IsShown s.tree)) next c.loop-shown.invariant.each).1;
    }
