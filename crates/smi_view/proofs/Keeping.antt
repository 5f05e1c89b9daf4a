-- A picture that takes notes in keeps up with what was had before.
use Rattle.std.proofs.Common.{◌≡◌, List, sym, subst}
use Rattle.smi_view.specs.Keeping.{KeepsUp}
use Rattle.smi_view.specs.Newest.{ShowsAtLeast, StandsAtLeast}
use Rattle.smi_view.specs.Noted.{Note, TakesIn}
use Rattle.smi_view.specs.Pictured.{Pictured, domain_of, object_of}
use Rattle.smi_view.proofs.Furthest as furthest
use Rattle.smi_view.proofs.Newest as newest
use Rattle.smi_view.proofs.Within.{is_within}

pub keeps_up : (notes : List Note) (before after : Pictured) → TakesIn notes before after → KeepsUp before after
keeps_up notes before after takes =
    record {
      objects = λ o v h.
          let within = is_within before.objects o (λ none. subst (λ x. ShowsAtLeast v x) none h) in
          subst (λ x. ShowsAtLeast v x) (sym (takes.objects o within.0 within.1))
          (newest.never_back o v (object_of before o) notes h);
      domains = λ d r h.
          let within = is_within before.domains d (λ none. subst (λ x. StandsAtLeast r x) none h) in
          subst (λ x. StandsAtLeast r x) (sym (takes.domains d within.0 within.1))
          (furthest.never_back d r (domain_of before d) notes h);
    }

-- nothing was noted
pub keeps_same : (before after : Pictured) → after ≡ before → KeepsUp before after
keeps_same before after same = subst (λ p. KeepsUp before p) (sym same) (record {
  objects = λ o v h. h;
  domains = λ d r h. h;
})

-- some was noted, and then more
pub keeps_both : (a b c : Pictured) → KeepsUp a b → KeepsUp b c → KeepsUp a c
keeps_both a b c f g =
    record {
      objects = λ o v h. g.objects o v (f.objects o v h);
      domains = λ d r h. g.domains d r (f.domains d r h);
    }
