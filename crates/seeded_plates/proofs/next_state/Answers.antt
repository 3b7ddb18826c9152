-- `seeded_plates::next_state` meets its contract: wrapping the product before the sum alters nothing.
use Rattle.std.proofs.Common.{ℕ, ◌+◌, ◌*◌, ◌%◌, ◌^◌, ap, ◌∙◌}
use native.Mathlib.Nat.{mod-add-mod}
use Rattle.seeded_plates.specs.Sequence.{next_state}
use Rattle.seeded_plates.proofs.next_state.Goals as goal

pub returns : goal.returns
unfolding next_state
returns c =
    let s = c.args.state in
    c.wrapping_add_u32.ensures.value ∙ ap (λ (n : ℕ). (n + 1013904223) % 2 ^ 32) c.wrapping_mul.ensures
    ∙ mod-add-mod (s * 1664525) (2 ^ 32) 1013904223
