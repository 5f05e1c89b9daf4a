-- What a list of datagrams leaves of a link.
use Rattle.std.specs.Prelude.{ℕ, ◌≡◌, ◌+◌, ◌⊎◌, ◌++◌, ◌∷◌, [], List, map, Option, Some, IfSome}
use Rattle.smi_message.specs.Message.{Message}
use Rattle.smi_message.specs.Spelling.{spelling}

-- what contracts see of a link: what it gave as received, what it took to be sent, how often it failed, and how often
-- it was asked to receive
pub record LinkShows : Type 0 where
  pub received : Option (List (List ℕ))
  pub handed : Option (List (ℕ × List ℕ))
  pub failures : ℕ
  pub receives : ℕ

abbrev pub shown_by : {L : Type 0} → (L → Option (List (List ℕ))) → (L → Option (List (ℕ × List ℕ)))
    → (failures receives : L → ℕ) → L → LinkShows
shown_by received handed failures receives l =
    record { received = received l; handed = handed l; failures = failures l; receives = receives l }

-- a list with this many of its elements left out
abbrev pub IsWithout : {X : Type 0} → ℕ → List X → List X → Type 0
IsWithout lost [] kept = (lost ≡ 0) × (kept ≡ [])
IsWithout {X} lost (x ∷ xs) kept =
    ((rest : List X) × (kept ≡ x ∷ rest) × IsWithout lost xs rest)
    ⊎ ((fewer : ℕ) × (lost ≡ fewer + 1) × IsWithout fewer xs kept)

-- a datagram as it is handed on: to its receiver
abbrev pub parcel : Message → ℕ × List ℕ
parcel m = (m.to, spelling m)

-- If the link tells, these datagrams were handed on in their order, without as many as the link failed.
pub record Sends (datagrams : List Message) (before after : LinkShows) : Type 0 where
  pub lost : ℕ
  pub sent : List (ℕ × List ℕ)
  pub without : IsWithout lost (map parcel datagrams) sent
  pub handed : IfSome before.handed (λ hs. after.handed ≡ Some (hs ++ sent))
  pub failures : after.failures ≡ before.failures + lost
  pub received : after.received ≡ before.received
  pub receives : after.receives ≡ before.receives

-- one datagram was handed on, or the link failed
abbrev pub SendsOne : Message → LinkShows → LinkShows → Type 0
SendsOne m before after =
    (after.received ≡ before.received) × (after.receives ≡ before.receives)
    × ((IfSome before.handed (λ hs. after.handed ≡ Some (hs ++ parcel m ∷ [])) × (after.failures ≡ before.failures))
    ⊎ ((after.handed ≡ before.handed) × (after.failures ≡ before.failures + 1)))
