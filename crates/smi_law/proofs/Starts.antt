-- Stations that have stopped are started again.
use Rattle.std.proofs.Common.{ℕ, ◌≡◌, ◌≢◌, ◌<◌, ◌+◌, true, List, [], ◌∷◌, inl, inr, refl}
use Rattle.std.proofs.Common.{sym, ap, ◌∙◌, subst, arith}
use Rattle.std.specs.Prelude.{length}
use Rattle.std.specs.List.{range_with_len}
use Rattle.smi_grant.specs.declared.Holder.{Holder}
use Rattle.smi_message.specs.Message.{last_boot}
use Rattle.smi_publish.specs.Published.{last_sequence}
use Rattle.smi_tree.specs.Hierarchy.{Hierarchy}
use Rattle.smi_tree.specs.Lawful.{IsTree}
use Rattle.smi_tree.specs.Lookups.{station_count}
use Rattle.smi_grant.proofs.Holders.{either}
use Rattle.smi_protocol.proofs.Lists.{In, from_range, in_range}
use Rattle.smi_protocol.proofs.Ranges.{is_within}
use Rattle.smi_protocol.proofs.Tables.{apart, put_here, put_there}
use Rattle.smi_protocol.specs.Display.{Station}
use Rattle.smi_protocol.specs.Opening.{opened}
use Rattle.smi_protocol.specs.Schedule.{World}
use Rattle.smi_protocol.specs.declared.Entry.{Entry}
use Rattle.smi_law.specs.Known.{link_in}
use Rattle.smi_law.specs.World.{Reaches}
use Rattle.smi_law.specs.Rest.{HaveBoots, IsStation}
use Rattle.smi_law.proofs.Asking.{is_station}
use Rattle.smi_law.proofs.Ascending.{Ascends, Less, ascends_range}
use Rattle.smi_law.proofs.Deliveries.{restart, start, starts_to}
use Rattle.smi_law.proofs.RestLists.{range_length}
use Rattle.smi_law.proofs.Room.{first_room}
use Rattle.smi_law.proofs.Ways.{Fine, IsReady, Way, go_on, led_reached, no_longer, stay}

module _ (h : Hierarchy) (tree : IsTree h) (n : ℕ) (small : n < last_sequence) where
  -- these stations are in service, the others are unchanged, and all links are
  record Started (xs : List ℕ) (w v : World) : Type 0 where
    past : List Entry
    run : Reaches h past v
    ready : (k : ℕ) → In k xs → IsReady true n (v.stations k)
    others : (k : ℕ) → (In k xs → ⊥) → v.stations k ≡ w.stations k
    links : (k : ℕ) → (v.stations k).grants.links ≡ (w.stations k).grants.links

  -- one station
  one_start : (x : ℕ) (past : List Entry) (w : World) → Reaches h past w → IsStation h x
      → (w.stations x).grants.boot ≢ last_boot → Way true h w 1 (Started (x ∷ []) w)
  one_start x past w run here boots = elim (either (w.stations x).is_stopped) [
    | inl stopped ↦
        let r = led_reached h tree (restart x ∷ []) past w run in
        let to = starts_to h w x boots in
        record {
          items = restart x ∷ [];
          each = ((here, stopped), tt);
          short = omega arith;
          there = subst (Started (x ∷ []) w) (sym to) (record {
            past = r.past;
            run = subst (Reaches h r.past) to r.run;
            ready = λ k at. elim at [
              | inl same ↦ subst (λ z. IsReady true n ((start h w x (w.stations x).grants).stations z)) (sym same)
                  (subst (IsReady true n) (sym (put_here w.stations x (opened h x (w.stations x).grants)))
                  (record { runs = refl; lasts = inl (first_room h x n small) }))
              | inr none ↦ absurd none
            ];
            others = λ k other. put_there w.stations x (opened h x (w.stations x).grants) k (λ is. other (inl is));
            links = λ k. elim (apart k x) [
              | inl same ↦ subst (λ z. ((start h w x (w.stations x).grants).stations z).grants.links
                  ≡ (w.stations z).grants.links) (sym same)
                  (ap (λ (z : Station). z.grants.links) (put_here w.stations x (opened h x (w.stations x).grants)))
              | inr other ↦ ap (λ (z : Station). z.grants.links)
                  (put_there w.stations x (opened h x (w.stations x).grants) k other)
            ];
          });
        }
    | inr runs ↦ stay true h w 1 (Started (x ∷ []) w) (record {
      past = past;
      run = run;
      ready = λ k at. elim at [
        | inl same ↦ subst (λ z. IsReady true n (w.stations z)) (sym same)
            (record { runs = runs; lasts = inr (refl, boots) })
        | inr none ↦ absurd none
      ];
      others = λ k other. refl;
      links = λ k. refl;
    })
  ]

  -- all of them, one after the other
  start_all : (xs : List ℕ) → Ascends Less xs → ((x : ℕ) → In x xs → IsStation h x) → (past : List Entry) (w : World)
      → Reaches h past w → ((x : ℕ) → In x xs → (w.stations x).grants.boot ≢ last_boot)
      → Way true h w (length xs) (Started xs w)
  start_all [] a here past w run boots = stay true h w 0 (Started [] w) (record {
    past = past;
    run = run;
    ready = λ k at. absurd at;
    others = λ k other. refl;
    links = λ k. refl;
  })
  start_all (x ∷ xs) a here past w run boots =
      no_longer true h w (1 + length xs) (length (x ∷ xs)) (Started (x ∷ xs) w) (Started (x ∷ xs) w) (omega arith)
      (λ v s. s)
      (go_on true h w 1 (length xs) (Started (x ∷ []) w) (Started (x ∷ xs) w)
      (one_start x past w run (here x (inl refl)) (boots x (inl refl)))
      (λ u s. no_longer true h u (length xs) (length xs) (Started xs u) (Started (x ∷ xs) w) (omega arith)
      (λ v t. record {
        past = t.past;
        run = t.run;
        ready = λ k at. elim at [
          | inl same ↦ subst (λ z. IsReady true n (v.stations z)) (sym same)
              (subst (IsReady true n) (sym (t.others x (λ i. not_again x (a.0 x i)))) (s.ready x (inl refl)))
          | inr more ↦ t.ready k more
        ];
        others = λ k other. t.others k (λ i. other (inr i)) ∙ s.others k (λ i. other (first k i));
        links = λ k. t.links k ∙ s.links k;
      })
      (start_all xs a.1 (λ k at. here k (inr at)) s.past u s.run
      (λ k at. subst (λ (z : Station). z.grants.boot ≢ last_boot)
      (sym (s.others k (λ i. not_first k at i))) (boots k (inr at))))))
    where
      not_again : (k : ℕ) → k < k → ⊥
      not_again k less = omega (arith, less)

      first : (k : ℕ) → In k (x ∷ []) → In k (x ∷ xs)
      first k (inl same) = inl same
      first k (inr none) = absurd none

      not_first : (k : ℕ) → In k xs → In k (x ∷ []) → ⊥
      not_first k at (inl same) = let less = a.0 k at in omega (arith, less, same)
      not_first k at (inr none) = none

  -- all stations of the tree
  pub start_way : (past : List Entry) (w : World) → Reaches h past w → HaveBoots h w
      → Way true h w (station_count h)
      (λ v. Fine true h n v × ((who : Holder) (d : ℕ) → link_in h v who d ≡ link_in h w who d))
  start_way past w run boots =
      no_longer true h w (length (range_with_len 1 (station_count h))) (station_count h)
      (Started (range_with_len 1 (station_count h)) w)
      (λ v. Fine true h n v × ((who : Holder) (d : ℕ) → link_in h v who d ≡ link_in h w who d))
      (let l = range_length 1 (station_count h) in omega (arith, l))
      (λ v s. (
        record {
          small = small;
          past = s.past;
          run = s.run;
          ready = λ k there. let b = is_within 1 (station_count h) k there in
              s.ready k (in_range k 1 (station_count h) b.least (omega (arith, b.most)));
        },
        λ who d. ap (λ z. z who d) (s.links _),
      ))
      (start_all (range_with_len 1 (station_count h)) (ascends_range 1 (station_count h)) station past w run
      (λ x at. boots x (station x at)))
    where
      station : (x : ℕ) → In x (range_with_len 1 (station_count h)) → IsStation h x
      station x at = let r = from_range x 1 (station_count h) at in
          is_station h x (record { least = r.0; most = (let l = r.1 in omega (arith, l)) })
