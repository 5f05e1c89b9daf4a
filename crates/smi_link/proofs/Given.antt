-- What a link in memory has given, once it has given one more.
use Rattle.std.proofs.Common.{◌≡◌, ◌++◌, ◌∷◌, [], List, ℕ, take, get_or, Option, Some, None, refl, ap, ◌∙◌}
use Rattle.std.specs.Prelude.{slice_get}
use Rattle.std.specs.List.{filter_map, cons_option}
use Rattle.std.specs.Option.{option_to_list}
use Rattle.std.proofs.lemmas.List.{take_more}
use Rattle.std.proofs.lemmas.List.Elements.{filter_map-append}
use Rattle.std.proofs.lemmas.Option.{get_or_from_slice_get, slice_get_within}
use Rattle.smi_link.specs.declared.frame.ToReceive.{ToReceive}
use Rattle.smi_link.specs.Memory.{Memory, datagram_of, received_of, moved_on}

one_more : (o : Option (List ℕ)) → cons_option o [] ≡ option_to_list o
one_more None = refl
one_more (Some x) = refl

pub received_more : (m : Memory) (c : ToReceive) → slice_get m.coming m.place ≡ Some c
    → received_of (moved_on m) ≡ received_of m ++ option_to_list (datagram_of c)
received_more m c next =
    let at : get_or m.coming m.place c ≡ c = get_or_from_slice_get m.coming m.place c c next in
    ap (filter_map datagram_of) (take_more m.coming m.place c (slice_get_within m.coming m.place c next))
    ∙ filter_map-append datagram_of (take m.place m.coming) (get_or m.coming m.place c ∷ [])
    ∙ rw at (ap (λ xs. received_of m ++ xs) (one_more (datagram_of c)))
