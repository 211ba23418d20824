use Rattle.std.proofs.Common.{rules, ◌≡◌, ◌≢◌, sym, subst, ◌∙◌, tests}
use Rattle.std.proofs.lemmas.Iterator.{IsFirst-from_position, YieldsList-from_slice}
use Rattle.policies.specs.Orders.{Small, moved_last}
use Rattle.policies.proofs.Places.{last_found, last_missing, small_last}
use Rattle.policies.proofs.old.aging.move_last.Goals as goal

pub returns-in-Some : goal.returns-in-Some
returns-in-Some c =
    let o = c.args.order.now in
    let s = c.args.slot in
    let found = IsFirst-from_position _ _ _ (λ y. y ≡ s) (λ y. y ≢ s) c.position.ensures.ran (YieldsList-from_slice o (cc)) (λ x q k. search (rules, tests)) (λ x q k. search (rules, tests)) in
    let here = rw c.in-Some.is at found in
    let moved : c.put_last.new.order ≡ moved_last s o = c.put_last.ensures ∙ last_found s o c.in-Some.place here.0 (here.1 0) here.2 in
    record { moved = moved; small = λ h. subst Small (sym moved) (small_last s o h) }

pub returns-in_default : goal.returns-in_default
returns-in_default c =
    let o = c.args.order.now in
    let s = c.args.slot in
    let found = IsFirst-from_position _ _ _ (λ y. y ≡ s) (λ y. y ≢ s) c.position.ensures.ran (YieldsList-from_slice o (cc)) (λ x q k. search (rules, tests)) (λ x q k. search (rules, tests)) in
    record { moved = last_missing s o (rw c.in_default.is at found); small = λ h. h }
