-- The sequence of a seed: how many greys there are, which each is, and that each is a byte.
use Rattle.std.proofs.Common.{◌≡◌, ℕ, zero, suc, ◌<◌, ◌≤◌, length, refl, ap, ◌∙◌, arith}
use Rattle.meaning.specs.Plate.{byte_greatest, grey}
use Rattle.seeded_plates.specs.Sequence.{greys_from, next_state, top_eight}
use Rattle.seeded_plates.specs.SeededPlates.{state_after}

pub greys_long : (n s : ℕ) → length (greys_from n s) ≡ n
unfolding greys_from
greys_long zero s = refl
greys_long (suc n) s = ap suc (greys_long n (next_state s))

-- the steps after the first
step_first : (n s : ℕ) → state_after n (next_state s) ≡ state_after (suc n) s
unfolding state_after
step_first zero s = refl
step_first (suc n) s = ap next_state (step_first n s)

-- a grey is the top eight bits of the state after one step more than there are greys before it
pub grey-is : (n s p : ℕ) → p < n → grey (greys_from n s) p ≡ top_eight (state_after (suc p) s)
unfolding greys_from state_after
grey-is zero s p l = absurd (omega arith)
grey-is (suc n) s zero l = refl
grey-is (suc n) s (suc p) l = grey-is n (next_state s) p (omega arith) ∙ ap top_eight (step_first (suc p) s)

-- a state after a step has 32 bits, and its top eight bits are a byte
top_low : (s : ℕ) → top_eight (next_state s) ≤ byte_greatest
unfolding next_state top_eight
top_low s = omega arith

pub greys_low : (n s p : ℕ) → p < n → grey (greys_from n s) p ≤ byte_greatest
unfolding state_after
greys_low n s p l = omega (arith, grey-is n s p l, top_low (state_after p s))
