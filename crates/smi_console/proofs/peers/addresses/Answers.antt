use Rattle.std.proofs.Common.{◌≡◌, ℕ, ◌+◌, ◌-◌, ◌==◌, false, List, [], ◌∷◌, ◌++◌, Some, get_or, map, take}
use Rattle.std.proofs.Common.{refl, sym, ap, ◌∙◌, arith}
use Rattle.std.proofs.lemmas.Bool.Decides.{nat_tests}
use Rattle.std.proofs.lemmas.List.{map_more, map_push, length_push}
use Rattle.std.proofs.lemmas.Option.{slice_get-get_or, slice_get_within}
use Rattle.std.specs.Prelude.{slice_get}
use Rattle.std.specs.declared.net.socket_addr.SocketAddr.{SocketAddr}
use Rattle.smi_tree.specs.Hierarchy.{entry}
use Rattle.smi_tree.specs.declared.number.Address.{Address}
use Rattle.smi_console.specs.Peers.{address_in}
use Rattle.smi_console.proofs.peers.addresses.Goals as goal

-- the row of a number from 1 is the one at the place below
entry_next : (rows : List Address) (i : ℕ) → entry rows (i + 1) ≡ slice_get rows i
entry_next rows i =
    let test : (i + 1 == 0) ≡ false = grind (arith, nat_tests) in
    let back : i + 1 - 1 ≡ i = omega arith in
    rw (test, back) refl

-- one socket more, at the address of the next station
one_more : (peers : List SocketAddr) (rows : List Address) (i : ℕ) (peer : SocketAddr) (row : Address)
    → map address_in peers ≡ map Some (take i rows) → address_in peer ≡ Some row
    → entry rows (i + 1) ≡ Some row → map address_in (peers ++ peer ∷ []) ≡ map Some (take (i + 1) rows)
one_more peers rows i peer row before at is =
    let there : slice_get rows i ≡ Some row = sym (entry_next rows i) ∙ is in
    let within = slice_get_within rows i row there in
    let read : Some (get_or rows i row) ≡ Some row = sym (slice_get-get_or rows i row within) ∙ there in
    map_push address_in peers peer ∙ ap (λ m. m ++ address_in peer ∷ []) before
    ∙ ap (λ x. map Some (take i rows) ++ x ∷ []) (at ∙ sym read) ∙ sym (map_more Some rows i row within)

pub loop-before-preserved : goal.loop-before-preserved
loop-before-preserved c = record {
  each = rw c.in_ok-push.ensures.items (one_more c.loop-before.peers.items c.args.tree.now.addresses
      c.loop-before.before c.socket_address.result c.address.result c.loop-before.invariant.each
      c.socket_address.ensures c.address.ensures);
  count = rw c.in_ok-push.ensures.items (length_push c.loop-before.peers.items c.socket_address.result
      ∙ ap (λ n. n + 1) c.loop-before.invariant.count);
}
