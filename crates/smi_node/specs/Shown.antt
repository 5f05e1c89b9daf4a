-- What the state that a step showed leaves of the board.
use Rattle.std.specs.Prelude.{◌≡◌, ◌⊎◌, ◌++◌, ◌∷◌, [], Option, Some, None}
use Rattle.smi_grant.specs.declared.Shown.{Shown}
use Rattle.smi_view.specs.Shows.{BoardShows, IsRefused}

-- it is published after all that was pending; if none was shown, nothing is
abbrev pub Publishes : Option Shown → BoardShows → BoardShows → Type 0
Publishes None before after = after ≡ before
Publishes (Some s) before after = after ≡ record {
  publications = before.publications ++ before.pending ++ s ∷ [];
  pending = [];
  refusals = before.refusals;
}

-- the board was refused memory: nothing was published, and it is pending at most
abbrev pub Refuses : Option Shown → BoardShows → BoardShows → Type 0
Refuses None before after = ⊥
Refuses (Some s) before after = (after.publications ≡ before.publications)
    × ((after.pending ≡ before.pending) ⊎ (after.pending ≡ before.pending ++ s ∷ []))
    × IsRefused before.refusals after.refusals
