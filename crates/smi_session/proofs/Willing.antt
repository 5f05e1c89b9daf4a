-- What was found among others has its place there: the will of a device, the mode of a child, an order that waits.
use Rattle.std.proofs.Common.{◌≡◌, ◌<◌, ℕ, Bool, List, [], ◌∷◌, length, Some, None}
use Rattle.std.specs.List.{position}
use Rattle.std.proofs.lemmas.List.Quantifiers.{position-Some}
use Rattle.smi_session.specs.declared.mode.ChildState.{ChildState}
use Rattle.smi_session.specs.declared.session.Deferred.{Deferred}
use Rattle.smi_session.specs.declared.will.DeviceWill.{DeviceWill}

pub within_of : (p : DeviceWill → Bool) (wills : List DeviceWill) (i : ℕ) → position p wills ≡ Some i → i < length wills
within_of p [] i is = absurd (let wrong : None ≡ Some i = is in cc)
within_of p (d ∷ wills) i is = (position-Some p (d ∷ wills) i d is).0

pub child_within : (p : ChildState → Bool) (states : List ChildState) (i : ℕ) → position p states ≡ Some i
    → i < length states
child_within p [] i is = absurd (let wrong : None ≡ Some i = is in cc)
child_within p (d ∷ states) i is = (position-Some p (d ∷ states) i d is).0

pub waits_within : (p : Deferred → Bool) (held : List Deferred) (i : ℕ) → position p held ≡ Some i → i < length held
waits_within p [] i is = absurd (let wrong : None ≡ Some i = is in cc)
waits_within p (d ∷ held) i is = (position-Some p (d ∷ held) i d is).0
