use Rattle.std.proofs.Common.{◌≡◌, ◌∙◌, false, ap, sym, subst}
use Rattle.std.specs.Prelude.{Result}
use Rattle.smi_message.specs.Message.{Message}
use Rattle.smi_protocol.specs.Happening.{Comes}
use Rattle.smi_protocol.specs.Step.{accepted}
use Rattle.smi_protocol.specs.declared.event.Heard.{Heard}
use Rattle.smi_protocol.specs.declared.event.StepFault.{StepFault}
use Rattle.smi_station.specs.Core.{Core, IsCore, Steps, core_with, number_of, same_or_memory, station_of}
use Rattle.smi_station.specs.Core.{station_with, tree_of}
use Rattle.smi_station.proofs.Steps.{running, stands}
use Rattle.smi_station.proofs.Steps.{watched_core, watched_steps}
use Rattle.std.specs.Prelude.{OnErr, true}
use Rattle.smi_station_display.specs.Displayed.{display_of}
use Rattle.smi_station_display.specs.Listening.{adds_watcher}
use Rattle.smi_station.specs.Wanting.{adds}
use Rattle.smi_station.proofs.Wanted.{as_memory}
use Rattle.smi_station.proofs.station.Core.watch.Goals as goal

pub invariant_of-self : goal.invariant_of-self
invariant_of-self c =
    let i = c.self.inside in
    let runs = running i.kept i.display i.is_stopped c.args.self.now c.self.view_is c.requires.runs in
    subst (λ b. IsCore (core_with i.kept c.watch_comes-done.new.self b)) (sym runs)
    (watched_core i.kept i.display c.watch_comes-done.new.self
    (record {
      from = c.datagram.inside.from;
      to = c.datagram.inside.to;
      tree = c.datagram.inside.tree;
      body = c.datagram.inside.body;
    }) c.args.watched.object c.args.watched.echo c.self.invariant.halves
    (ap (λ (m : Message). m.body) c.datagram.view_is ∙ c.requires.body) c.watch_comes-done.result
    c.self.invariant.tidy (c.self.invariant.room runs) c.watch_comes-done.ensures.rest
    c.watch_comes-done.ensures.display c.watch_comes-done.ensures.err)

pub returns-clause-step : goal.returns-clause-step
returns-clause-step c =
    let i = c.self.inside in
    let m : Message = record {
      from = c.datagram.inside.from;
      to = c.datagram.inside.to;
      tree = c.datagram.inside.tree;
      body = c.datagram.inside.body;
    } in
    let runs = running i.kept i.display i.is_stopped c.args.self.now c.self.view_is c.requires.runs in
    subst (λ (r : Result Heard StepFault). Steps c.args.self.now
    (core_with i.kept c.watch_comes-done.new.self i.is_stopped)
    (accepted (tree_of c.args.self.now) (number_of c.args.self.now) (station_of c.args.self.now)
    (Comes c.args.datagram.now)) c.watch_comes-done.new.out r) (sym c.same_or_memory.ensures)
    (stands i.kept i.display i.is_stopped c.args.self.now c.self.view_is c.requires.runs
    (λ (before : Core). Steps before (core_with i.kept c.watch_comes-done.new.self i.is_stopped)
    (accepted (tree_of before) (number_of before) (station_of before) (Comes c.args.datagram.now))
    c.watch_comes-done.new.out (same_or_memory c.watch_comes-done.result))
    (subst (λ b. Steps (core_with i.kept i.display false) (core_with i.kept c.watch_comes-done.new.self b)
    (accepted i.kept.tree i.kept.number (station_with i.kept i.display false) (Comes c.args.datagram.now))
    c.watch_comes-done.new.out (same_or_memory c.watch_comes-done.result)) (sym runs)
    (subst (λ (m : Message). Steps (core_with i.kept i.display false)
    (core_with i.kept c.watch_comes-done.new.self false)
    (accepted i.kept.tree i.kept.number (station_with i.kept i.display false) (Comes m)) c.watch_comes-done.new.out
    (same_or_memory c.watch_comes-done.result)) c.datagram.view_is
    (watched_steps i.kept i.display c.watch_comes-done.new.self m c.args.watched.object c.args.watched.echo
    c.self.invariant.halves (ap (λ (m : Message). m.body) c.datagram.view_is ∙ c.requires.body)
    c.args.out.now c.watch_comes-done.new.out c.watch_comes-done.result c.requires.empty
    c.watch_comes-done.ensures.display c.watch_comes-done.ensures.sent c.watch_comes-done.ensures.unsent))))

pub returns-clause-memory : goal.returns-clause-memory
returns-clause-memory c =
    let i = c.self.inside in
    let m : Message = record {
      from = c.datagram.inside.from;
      to = c.datagram.inside.to;
      tree = c.datagram.inside.tree;
      body = c.datagram.inside.body;
    } in
    let x = c.args.watched.object in
    let echo = c.args.watched.echo in
    let done = c.watch_comes-done.result in
    subst (λ (r : Result Heard StepFault). OnErr r
    (adds (station_of c.args.self.now).display c.args.datagram.now.from c.args.datagram.now.body ≡ true))
    (sym c.same_or_memory.ensures)
    (stands i.kept i.display i.is_stopped c.args.self.now c.self.view_is c.requires.runs
    (λ (before : Core). OnErr (same_or_memory done)
    (adds (station_of before).display c.args.datagram.now.from c.args.datagram.now.body ≡ true))
    (subst (λ (n : Message). OnErr (same_or_memory done) (adds (display_of i.display) n.from n.body ≡ true))
    c.datagram.view_is
    (subst (λ b. OnErr (same_or_memory done) (adds (display_of i.display) m.from b ≡ true))
    (sym (ap (λ (n : Message). n.body) c.datagram.view_is ∙ c.requires.body))
    (as_memory done (adds_watcher (display_of i.display) m.from x echo ≡ true) c.watch_comes-done.ensures.memory))))
