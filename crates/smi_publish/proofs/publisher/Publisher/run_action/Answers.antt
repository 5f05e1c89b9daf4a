use Rattle.std.proofs.Common.{arith, ◌≡◌, ◌+◌, ◌∙◌, ap, sym, refl, List, ◌++◌, length, ◌<◌, append-nil}
use Rattle.std.specs.Option.{option_to_list}
use Rattle.smi_grant.specs.declared.state.Shown.{Shown}
use Rattle.smi_tree.specs.Lookups.{devices_of}
use Rattle.smi_publish.proofs.Acting.{SoFar, SoFar-more, room_now, all_moved, all_shown}
use Rattle.smi_publish.proofs.DeviceNumbers.{device_at, few_devices}
use Rattle.smi_publish.proofs.publisher.Publisher.run_action.Goals.{in-Some, in-None}
use Rattle.smi_publish.proofs.publisher.Publisher.run_action.Goals as goal

pub overflow_add-object : goal.overflow_add-object
overflow_add-object c =
    let listed : c.devices-device-items.result.now
    ≡ devices_of c.args.tree.now c.args.domain = c.devices-device-items.ensures in
    let within : c.loop-device.device-index < length (devices_of c.args.tree.now c.args.domain) = rw (← listed)
    c.loop-device-test.true in
    let tree = c.domain_count-domains.ensures.tree in
    let number = device_at c.args.tree.now c.args.domain c.loop-device.device-index 0 tree within in
    rw listed (omega (arith, number.most, tree.lawful.domains.most, c.domain_count-domains.ensures.value))

pub act-requires-clause-device : goal.act-requires-clause-device
act-requires-clause-device c =
    let listed : c.devices-device-items.result.now
    ≡ devices_of c.args.tree.now c.args.domain = c.devices-device-items.ensures in
    let within : c.loop-device.device-index < length (devices_of c.args.tree.now c.args.domain) = rw (← listed)
    c.loop-device-test.true in
    let tree = c.domain_count-domains.ensures.tree in
    let number = device_at c.args.tree.now c.args.domain c.loop-device.device-index 0 tree within in
    rw listed (omega (arith, number.least, c.domain_count-domains.ensures.value))

pub act-requires-clause-room : goal.act-requires-clause-room
act-requires-clause-room c =
    let listed : c.devices-device-items.result.now
    ≡ devices_of c.args.tree.now c.args.domain = c.devices-device-items.ensures in
    let within : c.loop-device.device-index < length (devices_of c.args.tree.now c.args.domain) = rw (← listed)
    c.loop-device-test.true in
    room_now c.args.tree.now c.args.self.now c.loop-device.self c.args.domain c.args.action
    c.loop-device.device-index 0 _ c.loop-device.changes within c.loop-device.invariant
    (rw (listed, c.domain_count-domains.ensures.value) refl) c.requires.room

pub push-requires : goal.push-requires
push-requires c =
    let few = few_devices c.args.tree.now c.args.domain c.domain_count-domains.ensures.tree in
    let listed = ap length c.devices-device-items.ensures in
    omega (arith, few, listed, c.loop-device.invariant.few, c.loop-device-test.true)

pub loop-device-preserved : goal.loop-device-preserved
loop-device-preserved c =
    let listed : c.devices-device-items.result.now
    ≡ devices_of c.args.tree.now c.args.domain = c.devices-device-items.ensures in
    let within : c.loop-device.device-index < length (devices_of c.args.tree.now c.args.domain) = rw (← listed)
    c.loop-device-test.true in
    let more : SoFar c.args.tree.now c.args.self.now c.act.new.self c.args.domain c.args.action
    (c.loop-device.device-index + 1) (c.loop-device.changes ++ option_to_list c.act.result) =
    SoFar-more c.args.tree.now c.args.self.now c.loop-device.self c.act.new.self c.args.domain c.args.action
    c.loop-device.device-index 0 _ c.loop-device.changes c.act.result
    within c.loop-device.invariant (rw (listed, c.domain_count-domains.ensures.value) refl) c.act.ensures.boot
    c.act.ensures.conditions c.act.ensures.change in
    let step : (anew : List Shown) → anew ≡ c.loop-device.changes ++ option_to_list c.act.result
    → SoFar c.args.tree.now c.args.self.now c.act.new.self c.args.domain c.args.action
    (c.loop-device.device-index + 1) anew = λ anew e. rw e more in
    elim c.match-act.branch [
      | in-Some w ↦ step c.match-act.changes (w.changes-is ∙ w.push.ensures ∙ rw w.in-Some.is refl)
      | in-None w ↦ step c.match-act.changes (w.changes-is ∙ rw w.in-None.is (sym (append-nil c.loop-device.changes)))
    ]

pub returns-clause-conditions : goal.returns-clause-conditions
returns-clause-conditions c =
    all_moved c.args.tree.now c.args.self.now c.loop-device.self c.args.domain c.args.action
    c.loop-device.device-index c.loop-device.changes
    (rw (← c.devices-device-items.ensures) c.loop-device-test.false) c.loop-device.invariant

pub returns-clause-changes : goal.returns-clause-changes
returns-clause-changes c =
    all_shown c.args.tree.now c.args.self.now c.loop-device.self c.args.domain c.args.action
    c.loop-device.device-index c.loop-device.changes
    (rw (← c.devices-device-items.ensures) c.loop-device-test.false) c.loop-device.invariant

pub returns-clause-few : goal.returns-clause-few
returns-clause-few c =
    let few = few_devices c.args.tree.now c.args.domain c.domain_count-domains.ensures.tree in
    let listed = ap length c.devices-device-items.ensures in
    omega (arith, few, listed, c.loop-device.invariant.few, c.loop-device.auto.device-index-end)
