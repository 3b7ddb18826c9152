-- What the functions of the code ask and leave, of the columns of the work space w (n entries each) and of the slice s, which holds the set of the open
-- levels and the number of nodes.
--     g the pixel grid, n its pixels, wd its width, h the lightest open level
use Rattle.std.specs.Prelude.{◌≡◌, ◌⊎◌, true, List, ℕ, ◌+◌, ◌-◌, ◌*◌, ◌/◌, ◌%◌, ◌≤◌, ◌<◌, T, ltb, eqb, length, set}
use Rattle.meaning.specs.Sets.{pick, area, sum, nth}
use Rattle.meaning.specs.Plate.{connectivity_fits, max_pixels, max_extent}
use Rattle.work_columns.specs.Columns.{CellStored, Frame, Put, Room, cell}
use Rattle.work_columns.specs.Layout.{GREY, NAME, OWN, STACK, START, TOP, FLOODAREA, FLOODPARENT, FloodedColumns, level_in, touch_on}
use Rattle.work_columns.specs.declared.PixelGrid.{PixelGrid}
use Rattle.flood_directions.specs.Directions.{Beside, across, down}
use Rattle.flood_open_levels.specs.Levels.{Changed, Layers, is_open}
use Rattle.flood_laws.specs.Machine.{Mach, Fresh, work}

-- ---- the open levels

-- the word of s after the set: the number of nodes
abbrev pub NODES : ℕ
NODES = 1041

abbrev pub nodes : List ℕ → ℕ
nodes s = nth s NODES

-- the pixels of an open level, so far: the area of its node. name: by level, the node of an open level plus one, 0 where the level is not open
unfoldable pub pixels_by : (ℕ → ℕ) → (ℕ → ℕ) → ℕ → ℕ
pixels_by name size l = pick (ltb 0 (name l)) (size (name l - 1)) 0

abbrev pub pixels_at : ℕ → List ℕ → ℕ → ℕ
pixels_at n w = pixels_by (cell NAME n w) (cell FLOODAREA n w)

-- the node of an open level
abbrev pub node_by : (ℕ → ℕ) → ℕ → ℕ
node_by name l = name l - 1

abbrev pub node_at : ℕ → List ℕ → ℕ → ℕ
node_at n w = node_by (cell NAME n w)

-- s holds the set of the open levels, of L levels
pub record OpenSet (L : ℕ) (name : ℕ → ℕ) (s : List ℕ) : Type 0 where
  pub layers : Layers s
  pub held : (l : ℕ) → l < L → 0 < name l → is_open s l ≡ 1
  pub only : (l : ℕ) → is_open s l ≡ 1 → (l < L) × (0 < name l)

-- no level is open, and there is no node
pub record NoneOpen (s : List ℕ) : Type 0 where
  pub long : NODES < length s
  pub layers : Layers s
  pub none : (l : ℕ) → is_open s l ≡ 0
  pub nodes-none : nodes s ≡ 0

-- ---- the stacks

-- the pixel of an entry of the stacks, y * 65536 + x for column x of row y; n where it is none
unfoldable pub pixel_of : ℕ → ℕ → ℕ → ℕ
pixel_of wd n e = pick (ltb (e % 65536) wd) (e / 65536 * wd + e % 65536) n

unfoldable pub stack : ℕ → ℕ → List ℕ → ℕ → ℕ
unfolding pixel_of
stack wd n w i = pixel_of wd n (cell STACK n w i)

-- ---- what every step leaves
pub record Kept (n : ℕ) (w w' s s' : List ℕ) : Type 0 where
  pub frame : Frame n w w'
  pub greys : cell GREY n w' ≡ cell GREY n w
  pub set-length : length s' ≡ length s

abbrev pub left : ℕ → List ℕ → ℕ
left n w = work n n (cell OWN n w) (cell NAME n w) (cell TOP n w) (cell START n w)

-- ---- a pixel is given its node and pushed

-- the number of nodes is one more
pub record NodeCounted (s s' : List ℕ) (k : ℕ) : Type 0 where
  pub is : k ≡ nodes s
  pub next : s' ≡ set s NODES (k + 1)

pub record Nameable (n : ℕ) (w s : List ℕ) (m : ℕ) : Type 0 where
  pub room : Room w n
  pub inside : m < n
  pub small : m < 65536
  pub long : NODES < length s
  pub layers : Layers s
  pub shut : cell NAME n w m ≡ 0 → is_open s m ≡ 0
  pub node : 0 < cell NAME n w m → node_at n w m < n
  pub few : (v : ℕ) → v ≡ node_at n w m → 0 < cell NAME n w m → cell FLOODAREA n w v < max_pixels
  pub spare : nodes s < n

-- the open level m has one pixel more
pub record PixelCounted (n : ℕ) (w w' s s' : List ℕ) (m v : ℕ) : Type 0 where
  pub live : 0 < cell NAME n w m
  pub is : v ≡ node_at n w m
  pub more : Put n (cell FLOODAREA n w) (cell FLOODAREA n w') v (cell FLOODAREA n w v + 1)
  pub names : cell NAME n w' ≡ cell NAME n w
  pub same : s' ≡ s

-- the level m is opened, with the node v and one pixel
pub record LevelOpened (n : ℕ) (w w' s s' : List ℕ) (m v : ℕ) : Type 0 where
  pub shut : cell NAME n w m ≡ 0
  pub is : v ≡ nodes s
  pub names : Put n (cell NAME n w) (cell NAME n w') m (v + 1)
  pub one : Put n (cell FLOODAREA n w) (cell FLOODAREA n w') v 1
  pub set_is : Changed (set s NODES (v + 1)) s' m 1

-- the level m has one pixel more, and v is its node: a new one where the level was not open
pub record LevelNamed (n : ℕ) (w w' s s' : List ℕ) (m v : ℕ) : Type 0 where
  pub frame : Frame n w w'
  pub set-length : length s' ≡ length s
  pub fits : v < n
  pub off : (d : ℕ) → d < 8 → (d ≡ NAME → ⊥) → (d ≡ FLOODAREA → ⊥) → cell d n w' ≡ cell d n w
  pub case : PixelCounted n w w' s s' m v ⊎ LevelOpened n w w' s s' m v

-- the entry e is put on the stack of m
pub record EntryPlaced (n : ℕ) (w w' : List ℕ) (m e : ℕ) : Type 0 where
  pub frame : Frame n w w'
  pub stores : Put n (cell STACK n w) (cell STACK n w') (cell TOP n w m) e
  pub tops : Put n (cell TOP n w) (cell TOP n w') m (cell TOP n w m + 1)
  pub off : (d : ℕ) → d < 8 → (d ≡ STACK → ⊥) → (d ≡ TOP → ⊥) → cell d n w' ≡ cell d n w

-- it has room there
pub record Placeable (n : ℕ) (w : List ℕ) (m e : ℕ) : Type 0 where
  pub room : Room w n
  pub inside : m < n
  pub entry : e < 4294967296
  pub place : cell TOP n w m < n

-- a pixel q, not seen, can be pushed at the level m, open or not
pub record Pushable (n : ℕ) (w s : List ℕ) (q m e : ℕ) : Type 0 where
  pub pixel : q < n
  pub nameable : Nameable n w s m
  pub placeable : Placeable n w m e

-- the level m is open, and v its node
pub record Joinable (n : ℕ) (w : List ℕ) (q m v e : ℕ) : Type 0 where
  pub pixel : q < n
  pub live : 0 < cell NAME n w m
  pub is : v ≡ node_at n w m
  pub node : v < n
  pub few : cell FLOODAREA n w v < max_pixels
  pub placeable : Placeable n w m e

-- q has its node, and its entry lies on the stack of its level; w₁ and w₂ stand between
pub record Pushed (n : ℕ) (w w' s s' : List ℕ) (q m e : ℕ) : Type 0 where
  pub number : ℕ
  pub w₁ : List ℕ
  pub w₂ : List ℕ
  pub named : LevelNamed n w w₁ s s' m number
  pub owned : CellStored w₁ w₂ n OWN q number
  pub placed : EntryPlaced n w₂ w' m e

-- the same, whatever s is
pub record LevelJoined (n : ℕ) (w w' : List ℕ) (q m e : ℕ) : Type 0 where
  pub pushed : (s : List ℕ) → Pushed n w w' s s q m e

-- the stack of the level h lies within its column
pub record Poppable (n : ℕ) (w : List ℕ) (h : ℕ) : Type 0 where
  pub room : Room w n
  pub inside : h < n
  pub least : cell START n w h ≤ cell TOP n w h
  pub most : cell TOP n w h ≤ n

-- its topmost entry, e, is taken off
pub record EntryTaken (n : ℕ) (w w' : List ℕ) (h e : ℕ) : Type 0 where
  pub some : cell START n w h < cell TOP n w h
  pub entry : e ≡ cell STACK n w (cell TOP n w h - 1)
  pub top : CellStored w w' n TOP h (cell TOP n w h - 1)

-- ---- before the first step. L: the number of levels

-- the first m levels are not open, and their stacks start at 0
pub record LevelsCleared (n : ℕ) (w w' : List ℕ) (m : ℕ) : Type 0 where
  pub frame : Frame n w w'
  pub names : (l : ℕ) → l < m → cell NAME n w' l ≡ 0
  pub starts : (l : ℕ) → l < m → cell START n w' l ≡ 0
  pub off : (d : ℕ) → d < 8 → (d ≡ NAME → ⊥) → (d ≡ START → ⊥) → cell d n w' ≡ cell d n w

-- what counting asks: no pixel of a level that occurs is counted yet
pub record LevelsCountable (n : ℕ) (w : List ℕ) : Type 0 where
  pub room : Room w n
  pub inside : (p : ℕ) → p < n → level_in n w p < n
  pub zeros : (p : ℕ) → p < n → cell START n w (level_in n w p) ≡ 0

-- the levels of the first p pixels are counted, and these are not seen: each holds n plus its level
pub record LevelsCounted (n : ℕ) (w w' : List ℕ) (p : ℕ) : Type 0 where
  pub frame : Frame n w w'
  pub unseen : (q : ℕ) → q < p → cell OWN n w' q ≡ n + level_in n w q
  pub counts : (m : ℕ) → m < n → cell START n w' m ≡ cell START n w m + area p (λ (q : ℕ). eqb (level_in n w q) m)
  pub off : (d : ℕ) → d < 8 → (d ≡ OWN → ⊥) → (d ≡ START → ⊥) → cell d n w' ≡ cell d n w

-- START holds the sums of the values before, below m, and TOP the same; s is the sum of the first m
pub record Summed (n L : ℕ) (w w' : List ℕ) (m s : ℕ) : Type 0 where
  pub frame : Frame n w w'
  pub sum_is : s ≡ sum m (cell START n w)
  pub starts : (l : ℕ) → l < m → cell START n w' l ≡ sum l (cell START n w)
  pub tops : (l : ℕ) → l < m → cell TOP n w' l ≡ cell START n w' l
  pub rest : (l : ℕ) → m ≤ l → l < L → cell START n w' l ≡ cell START n w l
  pub off : (d : ℕ) → d < 8 → (d ≡ START → ⊥) → (d ≡ TOP → ⊥) → cell d n w' ≡ cell d n w

-- the sums fit
pub record Summable (n L : ℕ) (w : List ℕ) : Type 0 where
  pub room : Room w n
  pub few : L ≤ n
  pub total : sum L (cell START n w) ≤ max_pixels

-- ---- the machine in the work space, with the set

module _ (g : PixelGrid) where
  abbrev n : ℕ
  n = g.pixels

  abbrev wd : ℕ
  wd = g.width

  pub record Sizes : Type 0 where
    pub kind : connectivity_fits g.connectivity ≡ true
    pub width : 0 < wd
    pub wide : wd ≤ max_extent
    pub tall : g.height ≤ max_extent
    pub pixels : n ≡ g.height * wd

  -- u: the lightest open level plus one; c: the current pixel, n where there is none
  pub record Machine (w s : List ℕ) (u c : ℕ) : Type 0 where
    pub sizes : Sizes
    pub room : Room w n
    pub levels : ℕ
    pub few : levels ≤ n
    pub small : levels ≤ 65536
    pub long : NODES < length s
    pub fresh : Fresh n (level_in n w) (cell OWN n w)
    pub opens : OpenSet levels (cell NAME n w) s
    pub live : (l : ℕ) → l < levels → 0 < cell NAME n w l → 0 < pixels_at n w l
    pub mach : Mach n (touch_on g) (level_in n w) levels (cell OWN n w) (stack wd n w) (cell FLOODAREA n w) (cell FLOODPARENT n w)
        (pixels_at n w) (node_at n w) (cell TOP n w) (cell START n w) u (nodes s) c

  -- ---- a step

  -- between two steps: no pixel is current
  pub record Ready (w s : List ℕ) (h : ℕ) : Type 0 where
    pub machine : Machine w s (h + 1) n

  -- the pixel in column x of row y is the current one, of the lightest open level
  pub record Looking (w s : List ℕ) (h x y : ℕ) : Type 0 where
    pub machine : Machine w s (h + 1) (y * wd + x)
    pub column : x < wd
    pub row : y < g.height
    pub high : level_in n w (y * wd + x) ≡ h

  -- the pixel in column x' of row y' touches that in column x of row y
  pub record Toward (x y x' y' : ℕ) : Type 0 where
    pub column : x' < wd
    pub row : y' < g.height
    pub touches : T (touch_on g (y * wd + x) (y' * wd + x'))

  -- it is not seen, and its level m is not open
  pub record NewLevel (w : List ℕ) (x' y' m : ℕ) : Type 0 where
    pub level : m ≡ level_in n w (y' * wd + x')
    pub unseen : n ≤ cell OWN n w (y' * wd + x')
    pub shut : cell NAME n w m ≡ 0

  -- the pixels Q have been looked at from the current pixel. r is h where that stays the current one, else the level to which the flood has risen
  pub record Looked (w w' s s' : List ℕ) (h x y : ℕ) (Q : ℕ → Type 0) (r : ℕ) : Type 0 where
    pub kept : Kept n w w' s s'
    pub less : left n w' ≤ left n w
    pub still : (p : ℕ) → p < n → cell OWN n w p < n → cell OWN n w' p < n
    pub stays : r ≡ h → Looking w' s' h x y
    pub seen : r ≡ h → (q : ℕ) → q < n → Q q → cell OWN n w' q < n
    pub risen : (r ≡ h → ⊥) → Ready w' s' r

  -- the pixel in column x' of row y' lies in direction d of that in column x of row y
  pub record InDirection (d x y x' y' : ℕ) : Type 0 where
    pub across-is : x' + 1 ≡ x + across d
    pub down_is : y' + 1 ≡ y + down d
    pub column : x' < wd
    pub row : y' < g.height

  -- q is the neighbour of p in direction d, where the connectivity has that direction
  abbrev pub Neighbour : ℕ → ℕ → ℕ → Type 0
  Neighbour d p q = (d < g.connectivity) × Beside wd d p q

  -- some pixels are visited, none is current, and the lightest open level is r
  pub record Visited (w w' s s' : List ℕ) (r : ℕ) : Type 0 where
    pub kept : Kept n w w' s s'
    pub less : left n w' ≤ left n w
    pub ready : Ready w' s' r

  -- the pixel of the entry e is taken off the stack of the lightest open level h: it is the current one, and less is left to do
  pub record Taken (w w' s : List ℕ) (h e : ℕ) : Type 0 where
    pub looking : Looking w' s h (e % 65536) (e / 65536)
    pub kept : Kept n w w' s s
    pub less : left n w' < left n w

  -- the lightest open level h has nothing on its stack
  pub record Closable (w s : List ℕ) (h : ℕ) : Type 0 where
    pub ready : Ready w s h
    pub empty : cell TOP n w h ≡ cell START n w h

  -- some steps; r is the next level plus one, 0 where it was the last step
  pub record Stepped (w w' s s' : List ℕ) (r : ℕ) : Type 0 where
    pub kept : Kept n w w' s s'
    pub less : 0 < r → left n w' < left n w
    pub ready : (l : ℕ) → r ≡ l + 1 → Ready w' s' l
    pub tree : r ≡ 0 → FloodedColumns g w'
