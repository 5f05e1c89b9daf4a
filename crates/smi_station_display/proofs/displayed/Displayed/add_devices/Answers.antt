use Rattle.std.proofs.Common.{length, ap, get_or, arith}
use Rattle.smi_station_display.proofs.Listing.{few_devices, device_within}
use Rattle.smi_station_display.proofs.displayed.Displayed.add_devices.Goals as goal

pub overflow_add-object : goal.overflow_add-object
overflow_add-object c =
    let tree = c.self.invariant.tree in
    let all = c.devices-devices.ensures in
    let long = ap length all in
    let within = device_within _ tree c.args.domain c.loop-device.device-index 0
    (omega (arith, c.loop-device-test.true, long)) in
    let same = ap (λ xs. get_or xs c.loop-device.device-index 0) all in
    omega (
      arith,
      same,
      within,
      c.domain_count-domains.ensures.value,
      tree.lawful.domains.most,
      tree.lawful.devices.most,
    )

pub push-requires : goal.push-requires
push-requires c =
    let few = few_devices _ c.self.invariant.tree c.args.domain in
    let all = ap length c.devices-devices.ensures in
    omega (arith, c.loop-device.invariant.few, c.loop-device-test.true, all, few, c.requires.room)

pub returns-clause-few : goal.returns-clause-few
returns-clause-few c =
    let few = few_devices _ c.self.invariant.tree c.args.domain in
    let all = ap length c.devices-devices.ensures in
    omega (arith, c.loop-device.invariant.few, c.loop-device.auto.device-index-end, all, few, c.requires.room)
