use Rattle.std.proofs.Common.{◌∙◌, refl, sym, ap, subst}
use Rattle.smi_watchers.specs.Listing.{Listing}
use Rattle.smi_watchers.specs.Kept.{lists_of, IsKept}
use Rattle.smi_watchers.proofs.Seen.{joins}
use Rattle.smi_watchers.proofs.watchers.Watchers.add.Goals as goal

pub invariant_of-self : goal.invariant_of-self
invariant_of-self c =
    let lists = ap (λ (l : Listing). l.lists) c.self.view_is in let r = c.requires in
    subst IsKept (sym c.add.ensures.2)
    (joins c.self.inside.lists c.self.invariant c.args.self.now.lists lists c.add.ensures.0 _ c.add.ensures.1
    c.args.object refl r.object_least r.object_most r.station r.absent r.few).0

pub returns : goal.returns
returns c =
    let lists = ap (λ (l : Listing). l.lists) c.self.view_is in let r = c.requires in
    let new = ap lists_of c.add.ensures.2
    ∙ (joins c.self.inside.lists c.self.invariant c.args.self.now.lists lists c.add.ensures.0 _ c.add.ensures.1
    c.args.object refl r.object_least r.object_most r.station r.absent r.few).1 in
    λ t. record { lists = new t; visits = ap (λ (l : Listing). l.visits) c.self.view_is t }
