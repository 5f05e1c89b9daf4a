-- Notes that a picture takes in.
use Rattle.std.proofs.Common.{◌≡◌, ◌≢◌, ◌≤◌, ◌∙◌, ℕ, true, false, List, [], ◌∷◌, ◌++◌, ◌⊎◌, inl, inr, Option}
use Rattle.std.proofs.Common.{length, refl, sym, ap, subst}
use Rattle.std.specs.Prelude.{◌==◌, if◌then◌else◌}
use Rattle.std.proofs.lemmas.Bool.Decides.{eqb_tells}
use Rattle.smi_grant.specs.Record as grants
use Rattle.smi_grant.specs.declared.state.Shown.{Shown}
use Rattle.smi_view.specs.declared.sight.Hearing.{Hearing}
use Rattle.smi_view.specs.declared.sight.Sight.{Sight}
use Rattle.smi_view.specs.Newest.{shown_after, told_after}
use Rattle.smi_view.specs.Noted.{Note, Showed, TakesIn, Told, domain_after, object_after, object_with}
use Rattle.smi_view.specs.Pictured.{Pictured, domain_of, object_of}

-- what a test of two numbers chooses
chosen : {X : Type 0} (a b : ℕ) (same other left : X) → (a ≡ b → left ≡ same) → (a ≢ b → left ≡ other)
    → left ≡ (if a == b then same else other)
chosen {X} a b same other left is not = by (eqb_tells a b)
  where
    by : (((a == b) ≡ true) × (a ≡ b)) ⊎ (((a == b) ≡ false) × (a ≢ b)) → left ≡ (if a == b then same else other)
    by (inl e) = rw e.0 (is e.1)
    by (inr e) = rw e.0 (not e.1)

pub takes_shown : (a b : Pictured) (s : Shown) (t : ℕ)
    → object_of b s.object ≡ shown_after (object_of a s.object) s t
    → ((object : ℕ) → object ≢ s.object → object_of b object ≡ object_of a object)
    → b.domains ≡ a.domains → length b.objects ≡ length a.objects → TakesIn (Showed s t ∷ []) a b
takes_shown a b s t noted others domains count =
    record {
      objects = λ o least most. chosen o s.object (shown_after (object_of a o) s t) (object_of a o) (object_of b o)
          (λ is. subst (λ x. object_of b x ≡ shown_after (object_of a x) s t) (sym is) noted) (others o);
      domains = λ d least most. rw domains refl;
      object_count = count;
      domain_count = ap length domains;
    }

pub takes_told : (a b : Pictured) (d : ℕ) (r : grants.Standing) (t : ℕ)
    → domain_of b d ≡ told_after (domain_of a d) r t
    → ((other : ℕ) → other ≢ d → domain_of b other ≡ domain_of a other)
    → b.objects ≡ a.objects → length b.domains ≡ length a.domains → TakesIn (Told d r t ∷ []) a b
takes_told a b d r t noted others objects count =
    record {
      objects = λ o least most. rw objects refl;
      domains = λ x least most. chosen x d (told_after (domain_of a x) r t) (domain_of a x) (domain_of b x)
          (λ is. subst (λ y. domain_of b y ≡ told_after (domain_of a y) r t) (sym is) noted) (others x);
      object_count = ap length objects;
      domain_count = count;
    }

-- about something that the picture does not have
elsewhere : (x n most : ℕ) → (((1 ≤ n) × (n ≤ most)) → ⊥) → 1 ≤ x → x ≤ most → x ≢ n
elsewhere x n most out least within = λ is. out (subst (λ k. (1 ≤ k) × (k ≤ most)) is (least, within))

pub takes_no_shown : (a : Pictured) (s : Shown) (t : ℕ)
    → (((1 ≤ s.object) × (s.object ≤ length a.objects)) → ⊥) → TakesIn (Showed s t ∷ []) a a
takes_no_shown a s t out =
    record {
      objects = λ o least most. chosen o s.object (shown_after (object_of a o) s t) (object_of a o) (object_of a o)
          (λ is. absurd (elsewhere o s.object (length a.objects) out least most is)) (λ other. refl);
      domains = λ d least most. refl;
      object_count = refl;
      domain_count = refl;
    }

pub takes_no_told : (a : Pictured) (d : ℕ) (r : grants.Standing) (t : ℕ)
    → (((1 ≤ d) × (d ≤ length a.domains)) → ⊥) → TakesIn (Told d r t ∷ []) a a
takes_no_told a d r t out =
    record {
      objects = λ o least most. refl;
      domains = λ x least most. chosen x d (told_after (domain_of a x) r t) (domain_of a x) (domain_of a x)
          (λ is. absurd (elsewhere x d (length a.domains) out least most is)) (λ other. refl);
      object_count = refl;
      domain_count = refl;
    }

-- nothing is noted
pub takes_none : (a : Pictured) → TakesIn [] a a
takes_none a =
    record {
      objects = λ o least most. refl;
      domains = λ d least most. refl;
      object_count = refl;
      domain_count = refl;
    }

-- some notes, and then others
object_after_both : (o : ℕ) (had : Option Sight) (ms ns : List Note)
    → object_after o had (ms ++ ns) ≡ object_after o (object_after o had ms) ns
object_after_both o had [] ns = refl
object_after_both o had (m ∷ ms) ns = object_after_both o (object_with o had m) ms ns

domain_after_both : (d : ℕ) (had : Option Hearing) (ms ns : List Note)
    → domain_after d had (ms ++ ns) ≡ domain_after d (domain_after d had ms) ns
domain_after_both d had [] ns = refl
domain_after_both d had (m ∷ ms) ns = domain_after_both d (domain_after d had (m ∷ [])) ms ns

pub takes_both : (ms ns : List Note) (a b c : Pictured) → TakesIn ms a b → TakesIn ns b c → TakesIn (ms ++ ns) a c
takes_both ms ns a b c f g =
    record {
      objects = λ o least most.
          g.objects o least (subst (λ k. o ≤ k) (sym f.object_count) most)
          ∙ ap (λ had. object_after o had ns) (f.objects o least most)
          ∙ sym (object_after_both o (object_of a o) ms ns);
      domains = λ d least most.
          g.domains d least (subst (λ k. d ≤ k) (sym f.domain_count) most)
          ∙ ap (λ had. domain_after d had ns) (f.domains d least most)
          ∙ sym (domain_after_both d (domain_of a d) ms ns);
      object_count = g.object_count ∙ f.object_count;
      domain_count = g.domain_count ∙ f.domain_count;
    }
