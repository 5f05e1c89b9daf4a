use Rattle.std.proofs.Common.{Ok, false, refl, sym, subst}
use Rattle.smi_protocol.specs.Happening.{Ticks}
use Rattle.smi_protocol.specs.Step.{accepted}
use Rattle.smi_protocol.specs.declared.event.Heard.TheVariants.{Same}
use Rattle.smi_station.specs.Core.{Core, Steps, core_with, number_of, station_of, station_with, tree_of}
use Rattle.smi_station.proofs.Steps.{made_tidy, running, stands}
use Rattle.smi_station.proofs.station.Core.tick.Goals as goal

pub invariant_of-self : goal.invariant_of-self
invariant_of-self c =
    let i = c.self.inside in
    record {
      halves = c.tick.ensures.halves;
      tidy = made_tidy i.kept i.kept i.display c.tick.new.display false Ticks (Ok Same) c.tick.ensures.station
          (refl, refl) tt c.self.invariant.tidy;
      room = λ is. c.tick.ensures.room;
    }

pub returns-clause-step : goal.returns-clause-step
returns-clause-step c =
    let i = c.self.inside in
    let runs = running i.kept i.display i.is_stopped c.args.self.now c.self.view_is c.requires.runs in
    stands i.kept i.display i.is_stopped c.args.self.now c.self.view_is c.requires.runs
    (λ (before : Core). Steps before (core_with i.kept c.tick.new.display i.is_stopped)
    (accepted (tree_of before) (number_of before) (station_of before) Ticks) c.tick.new.out (Ok Same))
    (subst (λ b. Steps (core_with i.kept i.display false) (core_with i.kept c.tick.new.display b)
    (accepted i.kept.tree i.kept.number (station_with i.kept i.display false) Ticks) c.tick.new.out (Ok Same))
    (sym runs)
    (record {
      station = c.tick.ensures.station;
      heard = refl;
      out = c.tick.ensures.out;
      cleared = tt;
      tree = refl;
      number = refl;
    }))
