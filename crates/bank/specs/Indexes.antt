-- 01, "Bank admission", test 4: indexes that fall or end wrong.
use Rattle.std.specs.Prelude.{Bool, ◌&&◌, not, ◌||◌, ℕ, ◌+◌, ◌-◌, ltb, eqb, List, Option}
use Rattle.records.specs.Sides.{bag_of, gen_of, mod_of, head_at, bag_at}
use Rattle.records.specs.declared.Side.{Side}
use Rattle.records.specs.Looking.{placed, first, or_else}
use Rattle.records.specs.declared.Parts.{Parts}

-- 4. an index that falls or ends wrong: index i is below the one before
unfoldable pub falls_at : ℕ → ℕ → ℕ → Bool
falls_at before here i = ltb 0 i && ltb here before

-- index i is the last of n, and does not name the last of m
unfoldable pub ends_wrong : ℕ → ℕ → ℕ → ℕ → Bool
ends_wrong here i n m = eqb (i + 1) n && not (eqb (here + 1) m)

-- index i falls or ends wrong
unfoldable pub bad_at : ℕ → ℕ → ℕ → ℕ → ℕ → Bool
bad_at before here i n m = falls_at before here i || ends_wrong here i n m

-- the same of an index of n records into m, at place i
abbrev bad_index : (ℕ → ℕ) → ℕ → ℕ → ℕ → Bool
bad_index index n m i = bad_at (index (i - 1)) (index i) i n m

-- head h has a bad bag index
unfoldable pub bad_head : List ℕ → Side → ℕ → Bool
bad_head b s h = bad_index (bag_of b s) s.nheads s.nbags h

-- bag z has a bad generator or modulator index
unfoldable pub bad_bag : List ℕ → Side → ℕ → Bool
bad_bag b s z = bad_index (gen_of b s) s.nbags s.ngens z || bad_index (mod_of b s) s.nbags s.nmods z

-- the first bad head, which is the later one where an index falls and the terminal one where it ends wrong
unfoldable pub head_fault : List ℕ → Side → Option ℕ
head_fault b s = placed (head_at s) (first (bad_head b s) 0 s.nheads)

-- the first bad bag, in the same way
unfoldable pub bag_fault : List ℕ → Side → Option ℕ
bag_fault b s = placed (bag_at s) (first (bad_bag b s) 0 s.nbags)

-- phdr, pbag, inst, ibag stand in this order in the file
unfoldable pub index_fault : List ℕ → Parts → Option ℕ
index_fault b m =
    or_else (or_else (head_fault b m.presets) (bag_fault b m.presets)) (or_else (head_fault b m.instruments) (bag_fault b m.instruments))
