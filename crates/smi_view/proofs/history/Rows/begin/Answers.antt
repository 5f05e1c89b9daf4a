use Rattle.std.proofs.Common.{◌≤◌, List, length, ap, subst, arith}
use Rattle.std.proofs.lemmas.Bool.Decides.{nat_tests}
use mathlib.Core.List.{IsPrefix}
use Rattle.smi_grant.specs.declared.state.Shown.{Shown}
use Rattle.smi_view.proofs.Beginnings.{shorter_begins, no_longer, either_begins}
use Rattle.smi_view.proofs.history.Rows.begin.Goals as goal

pub returns-clause-begin : goal.returns-clause-begin
returns-clause-begin g c =
    let both = c.learn.new.self.log in
    let mine : IsPrefix c.self.inside.seen.log both = subst (λ (rows : List Shown). IsPrefix rows both)
    (ap (λ s. s.log) c.again-both.ensures) c.learn.ensures.2 in (
      (λ holds.
          let counts : c.self.inside.count ≤ c.others.inside.count = grind (arith, nat_tests, holds) in
          let less : length c.self.inside.seen.log ≤ length c.others.inside.seen.log = omega
          (arith, c.self.invariant.0, c.others.invariant.0) in
          rw (← c.self.view_is, ← c.others.view_is) (shorter_begins c.self.inside.seen.log c.others.inside.seen.log
          both mine c.learn.ensures.3 less)),
      (λ begins.
          let inside : IsPrefix c.self.inside.seen.log
          c.others.inside.seen.log = rw (c.self.view_is, c.others.view_is) begins in
          let less : length c.self.inside.seen.log ≤ length c.others.inside.seen.log = no_longer
          c.self.inside.seen.log c.others.inside.seen.log inside in
          let counts : c.self.inside.count ≤ c.others.inside.count = omega
          (arith, c.self.invariant.0, c.others.invariant.0, less) in
          grind (arith, nat_tests, counts)),
    )

pub returns-clause-follow : goal.returns-clause-follow
returns-clause-follow g c =
    let both = c.learn.new.self.log in
    let mine : IsPrefix c.self.inside.seen.log both = subst (λ (rows : List Shown). IsPrefix rows both)
    (ap (λ s. s.log) c.again-both.ensures) c.learn.ensures.2 in
    rw (← c.self.view_is, ← c.others.view_is) (either_begins c.self.inside.seen.log c.others.inside.seen.log both
    mine c.learn.ensures.3 c.self.inside.count c.others.inside.count c.self.invariant.0 c.others.invariant.0)
