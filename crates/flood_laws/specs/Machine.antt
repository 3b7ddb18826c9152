-- Flooding from the lightest open level (Salembier; Nistér and Stewénius): the state, and what holds of it between any two steps.
-- A pixel is seen when it has a node, own p < n. Each seen pixel has a label, lab p, the open level to which it belongs; a level is open
-- while a seen pixel has it as its label. Generic in the adjacency `near`, the greys f and the number of levels L.
--     Labels    labels and paths: what is joined, and that what is closed is complete
--     Counts    how many pixels each open level has
--     Names     the pixels' nodes
--     ClosedNodes    what the closed nodes hold: area, parent
--     Next      the lightest open level
--     Stacks    the pixels whose neighbours are still to be looked at
use Rattle.std.specs.Prelude.{◌≡◌, ◌⊎◌, Bool, ◌&&◌, ℕ, ◌+◌, ◌-◌, ◌*◌, ◌≤◌, ◌<◌, T, ltb, eqb}
use Rattle.meaning.specs.Sets.{area, has, sum}
use Rattle.meaning.specs.Paths.{Joined}
use Rattle.meaning.specs.Opening.{lighter}
use Rattle.meaning.specs.Nodes.{node}
use Rattle.work_columns.specs.Layout.{Alike, Up}

-- a pixel that has a node
abbrev pub Seen : ℕ → (ℕ → ℕ) → ℕ → Type 0
Seen n own p = (p < n) × (own p < n)

-- a pixel that is not seen holds n plus its level where its node will stand
abbrev pub Fresh : ℕ → (ℕ → ℕ) → (ℕ → ℕ) → Type 0
Fresh n f own = (p : ℕ) → p < n → n ≤ own p → own p ≡ n + f p

-- is q seen, and labelled l
abbrev pub marked : ℕ → (ℕ → ℕ) → (ℕ → ℕ) → ℕ → ℕ → Bool
marked n own lab l q = ltb (own q) n && eqb (lab q) l

-- a pixel of grey l that is labelled l, and has the node m
pub record Rep (n : ℕ) (f own lab : ℕ → ℕ) (l m : ℕ) : Type 0 where
  pub at : ℕ
  pub below : at < n
  pub seen : own at < n
  pub label : lab at ≡ l
  pub grey : f at ≡ l
  pub number : own at ≡ m

module _ (n : ℕ) (near : ℕ → ℕ → Bool) (f : ℕ → ℕ) where
  -- Todo: the pixels whose neighbours are still to be looked at. u: the lightest open level plus one
  pub record Labels (Todo : ℕ → Type 0) (own lab : ℕ → ℕ) (u : ℕ) : Type 0 where
    pub under : (p : ℕ) → Seen n own p → lab p ≤ f p
    pub high : (p : ℕ) → Seen n own p → lab p < u
    pub todo : (p : ℕ) → Todo p → (p < n) × (own p < n) × (lab p ≡ f p)
    pub sound : (p q l : ℕ) → Seen n own p → Seen n own q → l ≤ lab p → l ≤ lab q → Joined n near (lighter f l) p q
    pub shut : (p r t : ℕ) → Seen n own p → lab p < t → t ≤ f p → Joined n near (lighter f t) p r → (own r < n) × (lab r ≡ lab p)
    pub spread : (p : ℕ) → Seen n own p → Todo p ⊎ ((q : ℕ) → q < n → T (near p q) → own q < n)

  -- L: the number of levels
  pub record Counts (L : ℕ) (own lab cnt : ℕ → ℕ) : Type 0 where
    pub count : (l : ℕ) → l < L → cnt l ≡ area n (marked n own lab l)

  -- name l: the node of the open level l. k: the number of nodes
  pub record Names (L : ℕ) (own lab cnt name : ℕ → ℕ) (k : ℕ) : Type 0 where
    pub rep : (l : ℕ) → l < L → 0 < cnt l → Rep n f own lab l (name l)
    pub open_node : (p : ℕ) → Seen n own p → lab p ≡ f p → own p ≡ name (f p)
    pub apart : (p q : ℕ) → Seen n own p → Seen n own q → own p ≡ own q → Alike n near f p q
    pub together : (p q : ℕ) → Seen n own p → Seen n own q → Alike n near f p q → own p ≡ own q
    pub used : (p : ℕ) → Seen n own p → own p < k
    pub few : k ≤ area n (λ (q : ℕ). ltb (own q) n)

  -- what the closed node of p holds
  pub record Held (own size parent : ℕ → ℕ) (p : ℕ) : Type 0 where
    pub size_is : size (own p) ≡ area n (has (node n near f p))
    pub parent_is : Up n near f own p (parent (own p))
    pub parent_seen : parent (own p) < n

  -- each pixel whose label has fallen below its grey has a closed node
  pub record ClosedNodes (own lab size parent : ℕ → ℕ) : Type 0 where
    pub held : (p : ℕ) → Seen n own p → lab p < f p → Held own size parent p

-- ---- the open levels

-- u is the greatest open level below l, plus one; 0 where there is none
pub record Next (cnt : ℕ → ℕ) (l u : ℕ) : Type 0 where
  pub less : u ≤ l
  pub live : (j : ℕ) → u ≡ j + 1 → 0 < cnt j
  pub between : (j : ℕ) → u ≤ j → j < l → cnt j ≡ 0

-- u' is the lightest open level plus one when m is open too
abbrev pub Raised : ℕ → ℕ → ℕ → Type 0
Raised m u u' = ((u ≤ m) × (u' ≡ m + 1)) ⊎ ((m < u) × (u' ≡ u))

-- ---- the stacks of the levels, in one column: level m's part begins at start m, the number of pixels darker than m

-- r lies on the stack of its level
abbrev pub Pend : (ℕ → ℕ) → (ℕ → ℕ) → (ℕ → ℕ) → (ℕ → ℕ) → ℕ → Type 0
Pend f stk start top r = (i : ℕ) × (start (f r) ≤ i) × (i < top (f r)) × (stk i ≡ r)

-- r lies on a stack, or is the current one, c (n where none is)
abbrev pub Todo : ℕ → (ℕ → ℕ) → (ℕ → ℕ) → (ℕ → ℕ) → (ℕ → ℕ) → ℕ → ℕ → Type 0
Todo n f stk start top c r = (r < n) × (Pend f stk start top r ⊎ (r ≡ c))

-- start m is the number of pixels darker than m
abbrev pub Starts : ℕ → ℕ → (ℕ → ℕ) → (ℕ → ℕ) → Type 0
Starts n L f start = (m : ℕ) → m < L → start m ≡ area n (λ (r : ℕ). ltb (f r) m)

pub record Stacks (n L : ℕ) (f own stk start top : ℕ → ℕ) (c : ℕ) : Type 0 where
  pub starts : Starts n L f start
  pub least : (m : ℕ) → m < L → start m ≤ top m
  pub limit : (m : ℕ) → m < L → top m ≤ start m + area n (marked n own f m)
  pub spare : c < n → top (f c) < start (f c) + area n (marked n own f (f c))
  pub filed : (m i : ℕ) → m < L → start m ≤ i → i < top m → f (stk i) ≡ m
  pub pixel : (m i : ℕ) → m < L → start m ≤ i → i < top m → stk i < n

-- ---- the whole

-- the columns by level: count, name, top and start of its stack; u: the lightest open level plus one; k: the number of nodes; c: the current pixel, n
-- where there is none; lab is known to the proof alone
pub record Mach (n : ℕ) (near : ℕ → ℕ → Bool) (f : ℕ → ℕ) (L : ℕ) (own stk size parent cnt name top start : ℕ → ℕ) (u k c : ℕ) : Type 0 where
  pub greys_below : (p : ℕ) → p < n → f p < L
  pub lab : ℕ → ℕ
  pub labels : Labels n near f (Todo n f stk start top c) own lab u
  pub counts : Counts n near f L own lab cnt
  pub names : Names n near f L own lab cnt name k
  pub closed : ClosedNodes n near f own lab size parent
  pub tip : Next cnt L u
  pub stacks : Stacks n L f own stk start top c

-- what is left to do, as a number that falls with each step: 3 for each pixel not seen, 1 for each entry of the stacks and 1 for each level that is open
-- by the names
unfoldable pub work : ℕ → ℕ → (ℕ → ℕ) → (ℕ → ℕ) → (ℕ → ℕ) → (ℕ → ℕ) → ℕ
work n L own name top start =
    3 * (n - area n (λ (r : ℕ). ltb (own r) n)) + (sum L (λ (m : ℕ). top m - start m) + area L (λ (l : ℕ). ltb 0 (name l)))
