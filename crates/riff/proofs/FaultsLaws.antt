-- Each refusal is of the first fault, and each first fault is refused.
use mathlib.Core.List.{List}
use mathlib.Core.Logic.{◌⊎◌, inl, inr, ⊎_elim}
use mathlib.Core.Path.{◌≡◌, refl, ◌∙◌, ap}
use Prim.Native.Nat.{ℕ, ◌+◌, ◌<◌, ◌≤◌}
use native.Mathlib.Omega.{arith}
use borrow.Author.Tests.{eqb-true, eqb-false, leb-true, leb-false}
use lib.Dec.{eqb, leb}
use lib.ListN.{length}
use Rattle.arith.specs.Bytes.{u32_at}
use Rattle.riff.specs.declared.form.Span.{Span}
use Rattle.riff.specs.Chunks.{list_name, body_end, stop_at, first_at}
use Rattle.riff.specs.Form.{riff_name, font_type, bank_type, data_type, samples_name, refused_by, list_body, chunk_body, bank_at, data_at, data_span, samples_at, Found, found_in, find_of}
use Rattle.riff.specs.Faults.{Broken, FirstOf, NoneOf, IsList, IsSamples, Formed, Amiss, no-riff, no-font, no-form, in-form, in-data, no-bank, no-data, no-samples, FirstFault, RefusalIsFirst, FirstIsRefused, FoundNotAmiss, NotAmissFound}
use Rattle.riff.proofs.ChunksLaws
use Rattle.riff.proofs.FormLaws
use Rattle.riff.proofs.WalkLaws

-- a form of the right name and type that lies in the file
pub record Good (b : List ℕ) : Type 0 where
  pub riff : u32_at b 0 ≡ riff_name
  pub font : u32_at b 8 ≡ font_type
  pub formed : Formed b

-- the first sdta list
abbrev pub Data : List ℕ → ℕ → Type 0
Data b d = FirstOf b (body_end b 0) 12 (IsList b data_type) d

-- each chunk that is walked is whole
pub record Sound (b : List ℕ) : Type 0 where
  pub form : (at : ℕ) → Broken b (body_end b 0) 12 at → ⊥
  pub data-list : (d at : ℕ) → Data b d → Broken b (body_end b d) (d + 12) at → ⊥

-- why a file is found, and with which parts: its sdta list d, the samples s in it, its pdta list p
pub record Facts (b : List ℕ) : Type 0 where
  pub good : Good b
  pub sound : Sound b
  pub d : ℕ
  pub s : ℕ
  pub p : ℕ
  pub data_is : Data b d
  pub samples-are : FirstOf b (body_end b d) (d + 12) (IsSamples b) s
  pub bank-is : FirstOf b (body_end b 0) 12 (IsList b bank_type) p
  pub is : find_of b ≡ record { number = 0; place = 0; bank = list_body b p; samples = chunk_body b s }

-- what became of a file, and why
pub data Outcome (b : List ℕ) : Type 0 where
  other : (u32_at b 0 ≡ riff_name → ⊥) → find_of b ≡ refused_by 40 0 → Outcome b
  other-type : u32_at b 0 ≡ riff_name → (u32_at b 8 ≡ font_type → ⊥) → find_of b ≡ refused_by 40 8 → Outcome b
  unformed : u32_at b 0 ≡ riff_name → u32_at b 8 ≡ font_type → (Formed b → ⊥) → find_of b ≡ refused_by 41 0 → Outcome b
  broken-data : Good b → (d at : ℕ) → Data b d → Broken b (body_end b d) (d + 12) at → find_of b ≡ refused_by 41 at → Outcome b
  broken-form :
      Good b → ((d at : ℕ) → Data b d → Broken b (body_end b d) (d + 12) at → ⊥) → (at : ℕ) → Broken b (body_end b 0) 12 at → find_of b ≡ refused_by 41 at → Outcome b
  silent : Good b → Sound b → (d : ℕ) → Data b d → NoneOf b (body_end b d) (d + 12) (IsSamples b) → find_of b ≡ refused_by 42 (body_end b d) → Outcome b
  dataless : Good b → Sound b → NoneOf b (body_end b 0) 12 (IsList b data_type) → find_of b ≡ refused_by 42 (body_end b 0) → Outcome b
  bankless :
      Good b → Sound b → (d s : ℕ) → Data b d → FirstOf b (body_end b d) (d + 12) (IsSamples b) s → NoneOf b (body_end b 0) 12 (IsList b bank_type)
      → find_of b ≡ refused_by 42 (body_end b 0) → Outcome b
  found : Facts b → Outcome b

-- there is one first of a kind
pub same_first : {b : List ℕ} {end from : ℕ} {Is : ℕ → Type 0} (one two : ℕ) → FirstOf b end from Is one → FirstOf b end from Is two → one ≡ two
same_first one two f g = omega (arith, f.first two g.stands, g.first one f.stands)

-- the numbers and places in their order
pub order : (n m p q : ℕ) → n ≤ m → (n ≡ m → p ≤ q) → (n < m) ⊎ ((n ≡ m) × (p ≤ q))
order n m p q h k = ChunksLaws.by-test (eqb n m) (λ e. inr (eqb-true _ _ e, k (eqb-true _ _ e))) (λ e. inl (omega (arith, h, eqb-false n m e)))

module _ (b : List ℕ) (good : Good b) where
  -- the form has room for its type
  pub form-long : 12 ≤ body_end b 0
  form-long = omega (arith, good.formed.typed)

  -- a list of the form has room for its type and ends in the form
  pub list-in : (kind d : ℕ) → FirstOf b (body_end b 0) 12 (IsList b kind) d → (d + 12 ≤ body_end b d) × (body_end b d ≤ body_end b 0)
  list-in kind d f = (omega (arith, f.stands.whole.typed f.stands.is.0), f.stands.whole.body-in)

  -- what is wrong beside a list with a broken chunk is not in front of that
  pub data-first : (d at n p : ℕ) → Data b d → Broken b (body_end b d) (d + 12) at → Amiss b n p → (41 < n) ⊎ ((41 ≡ n) × (at ≤ p))
  data-first d at n p f k (no-riff h) = absurd (h good.riff)
  data-first d at n p f k (no-font h) = absurd (h good.font)
  data-first d at n p f k (no-form h) = absurd (h good.formed)
  data-first d at n p f k (in-form q g j) =
      let e = WalkLaws.broken-stop b (body_end b 0) 12 form-long q j in
      let i = WalkLaws.stop-behind b (body_end b 0) 12 d f.stands.reached f.stands.whole in
      inr (refl, omega (arith, e, i, k.more))
  data-first d at n p f k (in-data l q g m j) =
      let e = same_first l d m f in
      let i = (list-in data_type d f).0 in
      let one = WalkLaws.broken-stop b (body_end b d) (d + 12) i at k in
      let two = WalkLaws.broken-stop b (body_end b d) (d + 12) i q (rw e at j) in
      inr (refl, omega (arith, one, two))
  data-first d at n p f k (no-bank g h) = inl (omega arith)
  data-first d at n p f k (no-data g h) = inl (omega arith)
  data-first d at n p f k (no-samples l g m h) = inl (omega arith)

  -- nor beside a broken chunk of the form
  pub form-first :
      (at n p : ℕ) → ((d at : ℕ) → Data b d → Broken b (body_end b d) (d + 12) at → ⊥) → Broken b (body_end b 0) 12 at → Amiss b n p
      → (41 < n) ⊎ ((41 ≡ n) × (at ≤ p))
  form-first at n p s k (no-riff h) = absurd (h good.riff)
  form-first at n p s k (no-font h) = absurd (h good.font)
  form-first at n p s k (no-form h) = absurd (h good.formed)
  form-first at n p s k (in-form q g j) =
      inr (refl, omega (arith, WalkLaws.broken-stop b (body_end b 0) 12 form-long q j, WalkLaws.broken-stop b (body_end b 0) 12 form-long at k))
  form-first at n p s k (in-data l q g m j) = absurd (s l q m j)
  form-first at n p s k (no-bank g h) = inl (omega arith)
  form-first at n p s k (no-data g h) = inl (omega arith)
  form-first at n p s k (no-samples l g m h) = inl (omega arith)

  -- nor beside a list with no samples
  pub silent-first : (d n p : ℕ) → Sound b → Data b d → Amiss b n p → (42 < n) ⊎ ((42 ≡ n) × (body_end b d ≤ p))
  silent-first d n p s f (no-riff h) = absurd (h good.riff)
  silent-first d n p s f (no-font h) = absurd (h good.font)
  silent-first d n p s f (no-form h) = absurd (h good.formed)
  silent-first d n p s f (in-form q g j) = absurd (s.form q j)
  silent-first d n p s f (in-data l q g m j) = absurd (s.data-list l q m j)
  silent-first d n p s f (no-bank g h) = inr (refl, (list-in data_type d f).1)
  silent-first d n p s f (no-data g h) = inr (refl, (list-in data_type d f).1)
  silent-first d n p s f (no-samples l g m h) = let e = same_first d l f m in inr (refl, rw e (omega arith))

  -- nor beside a list that is missing
  pub missing-first : (n p : ℕ) → Sound b → ((d : ℕ) → Data b d → NoneOf b (body_end b d) (d + 12) (IsSamples b) → ⊥) → Amiss b n p → (42 < n) ⊎ ((42 ≡ n) × (body_end b 0 ≤ p))
  missing-first n p s t (no-riff h) = absurd (h good.riff)
  missing-first n p s t (no-font h) = absurd (h good.font)
  missing-first n p s t (no-form h) = absurd (h good.formed)
  missing-first n p s t (in-form q g j) = absurd (s.form q j)
  missing-first n p s t (in-data l q g m j) = absurd (s.data-list l q m j)
  missing-first n p s t (no-bank g h) = inr (refl, omega arith)
  missing-first n p s t (no-data g h) = inr (refl, omega arith)
  missing-first n p s t (no-samples l g m h) = absurd (t l m h)

  -- nothing is wrong with a file that is found
  pub found-fine :
      (d s a n p : ℕ) → Sound b → Data b d → FirstOf b (body_end b d) (d + 12) (IsSamples b) s → FirstOf b (body_end b 0) 12 (IsList b bank_type) a → Amiss b n p → ⊥
  found-fine d s a n p o f g k (no-riff h) = h good.riff
  found-fine d s a n p o f g k (no-font h) = h good.font
  found-fine d s a n p o f g k (no-form h) = h good.formed
  found-fine d s a n p o f g k (in-form q i j) = o.form q j
  found-fine d s a n p o f g k (in-data l q i m j) = o.data-list l q m j
  found-fine d s a n p o f g k (no-bank i h) = h a k.stands
  found-fine d s a n p o f g k (no-data i h) = h d f.stands
  found-fine d s a n p o f g k (no-samples l i m h) = let e = same_first d l f m in rw (← e) at h s g.stands

  -- in a list that has samples they are not missing
  pub not-silent : (d s : ℕ) → Data b d → FirstOf b (body_end b d) (d + 12) (IsSamples b) s → (l : ℕ) → Data b l → NoneOf b (body_end b l) (l + 12) (IsSamples b) → ⊥
  not-silent d s f g l m h = let e = same_first d l f m in rw (← e) at h s g.stands

-- no number is below 40
pub from-40 : (b : List ℕ) (n p : ℕ) → Amiss b n p → 40 ≤ n
from-40 b n p (no-riff h) = omega arith
from-40 b n p (no-font h) = omega arith
from-40 b n p (no-form h) = omega arith
from-40 b n p (in-form q g j) = omega arith
from-40 b n p (in-data l q g m j) = omega arith
from-40 b n p (no-bank g h) = omega arith
from-40 b n p (no-data g h) = omega arith
from-40 b n p (no-samples l g m h) = omega arith

-- another type, behind the right name
pub type-first : (b : List ℕ) (n p : ℕ) → u32_at b 0 ≡ riff_name → Amiss b n p → (40 < n) ⊎ ((40 ≡ n) × (8 ≤ p))
type-first b n p e (no-riff h) = absurd (h e)
type-first b n p e (no-font h) = inr (refl, omega arith)
type-first b n p e (no-form h) = inl (omega arith)
type-first b n p e (in-form q g j) = inl (omega arith)
type-first b n p e (in-data l q g m j) = inl (omega arith)
type-first b n p e (no-bank g h) = inl (omega arith)
type-first b n p e (no-data g h) = inl (omega arith)
type-first b n p e (no-samples l g m h) = inl (omega arith)

-- behind the right name and type
pub from-41 : (b : List ℕ) (n p : ℕ) → u32_at b 0 ≡ riff_name → u32_at b 8 ≡ font_type → Amiss b n p → 41 ≤ n
from-41 b n p e f (no-riff h) = absurd (h e)
from-41 b n p e f (no-font h) = absurd (h f)
from-41 b n p e f (no-form h) = omega arith
from-41 b n p e f (in-form q g j) = omega arith
from-41 b n p e f (in-data l q g m j) = omega arith
from-41 b n p e f (no-bank g h) = omega arith
from-41 b n p e f (no-data g h) = omega arith
from-41 b n p e f (no-samples l g m h) = omega arith

-- ---- what becomes of a file

module _ (b : List ℕ) (good : Good b) where
  -- the form, with a span for its sdta list
  pub found-by : (s : Span) → data_span b (body_end b 0) ≡ s → find_of b ≡ found_in b (body_end b 0) s
  found-by s e =
      FormLaws.find-form b good.riff good.font good.formed.typed good.formed.body-in ∙ ap (λ (x : Span). found_in b (body_end b 0) x) e

  -- there is no sdta list
  pub without-data : data_at b (body_end b 0) ≡ body_end b 0 → Outcome b
  unfolding data_at samples_at
  without-data e =
      let end = body_end b 0 in
      let s : Span = record { from = body_end b 0; end = body_end b 0 } in
      let none : NoneOf b (body_end b 0) 12 (IsList b data_type) = WalkLaws.found_none b end list_name data_type 12 (IsList b data_type) (WalkLaws.list-to b data_type) (WalkLaws.list-of b data_type) e in
      let past = ChunksLaws.past-not-whole b end end (omega arith) in
      let inner = ChunksLaws.stop-done b end end past in
      let is = found-by s (FormLaws.span_none b end e) in
      ChunksLaws.by-test (eqb (stop_at b end 12) end)
      (λ o. let outer = eqb-true _ _ o in
      dataless good (record { form = WalkLaws.end-unbroken b end 12 (form-long b good) outer; data-list = λ d at f k. none d f.stands }) none
      (is ∙ FormLaws.in-silent b end s inner outer (ChunksLaws.first-none b end end samples_name 0 past)))
      (λ o. let n = eqb-false (stop_at b end 12) end o in
      broken-form good (λ d at f k. none d f.stands) (stop_at b end 12) (WalkLaws.stop-broken b end 12 (form-long b good) n)
      (is ∙ FormLaws.in-form-broken b end s inner n))

  module _ (d : ℕ) (at-d : data_at b (body_end b 0) ≡ d) (some : data_at b (body_end b 0) ≡ body_end b 0 → ⊥) (f : Data b d) where
    -- the span of the sdta list
    pub span-is : data_span b (body_end b 0) ≡ record { from = d + 12; end = body_end b d }
    span-is = rw at-d at (FormLaws.span-some b (body_end b 0) some)

    -- each chunk is whole
    pub parts-of : Sound b → stop_at b (body_end b d) (d + 12) ≡ body_end b d → stop_at b (body_end b 0) 12 ≡ body_end b 0 → Outcome b
    unfolding samples_at bank_at
    parts-of sound inner outer =
        let end = body_end b 0 in
        let edge = body_end b d in
        let s : Span = record { from = d + 12; end = body_end b d } in
        let is = found-by s span-is in
        let p = first_at b edge samples_name 0 (d + 12) in
        let q = first_at b end list_name bank_type 12 in
        ChunksLaws.by-test (eqb p edge)
        (λ o. let n = eqb-true p edge o in
        silent good sound d f (WalkLaws.found_none b edge samples_name 0 (d + 12) (IsSamples b) (WalkLaws.samples-to b) (WalkLaws.samples-of b) n)
        (is ∙ FormLaws.in-silent b end s inner outer n))
        (λ o. let n = eqb-false p edge o in
        let g = WalkLaws.found_first b edge samples_name 0 (d + 12) (IsSamples b) (WalkLaws.samples-to b) (WalkLaws.samples-of b) n in
        ChunksLaws.by-test (eqb q end)
        (λ u. let m = eqb-true q end u in
        bankless good sound d p f g (WalkLaws.found_none b end list_name bank_type 12 (IsList b bank_type) (WalkLaws.list-to b bank_type) (WalkLaws.list-of b bank_type) m)
        (is ∙ FormLaws.in-bankless b end s inner outer n m))
        (λ u. let m = eqb-false q end u in
        found (record {
          good = good;
          sound = sound;
          d = d;
          s = p;
          p = q;
          data_is = f;
          samples-are = g;
          bank-is = WalkLaws.found_first b end list_name bank_type 12 (IsList b bank_type) (WalkLaws.list-to b bank_type) (WalkLaws.list-of b bank_type) m;
          is = is ∙ FormLaws.in-found b end s inner outer n m;
        })))

    -- there is an sdta list
    pub with-data : Outcome b
    with-data =
        let end = body_end b 0 in
        let edge = body_end b d in
        let s : Span = record { from = d + 12; end = body_end b d } in
        let is = found-by s span-is in
        let room = (list-in b good data_type d f).0 in
        ChunksLaws.by-test (eqb (stop_at b edge (d + 12)) edge)
        (λ i. let inner = eqb-true (stop_at b edge (d + 12)) edge i in
        let fine : ((l at : ℕ) → Data b l → Broken b (body_end b l) (l + 12) at → ⊥) = λ l at m k. let e = same_first l d m f in WalkLaws.end-unbroken b edge (d + 12) room inner at (rw e at k) in
        ChunksLaws.by-test (eqb (stop_at b end 12) end)
        (λ o. let outer = eqb-true (stop_at b end 12) end o in
        parts-of (record { form = WalkLaws.end-unbroken b end 12 (form-long b good) outer; data-list = fine }) inner outer)
        (λ o. let n = eqb-false (stop_at b end 12) end o in
        broken-form good fine (stop_at b end 12) (WalkLaws.stop-broken b end 12 (form-long b good) n) (is ∙ FormLaws.in-form-broken b end s inner n)))
        (λ i. let n = eqb-false (stop_at b edge (d + 12)) edge i in
        broken-data good d (stop_at b edge (d + 12)) f (WalkLaws.stop-broken b edge (d + 12) room n) (is ∙ FormLaws.in-broken b end s n))

  -- a good form
  pub in-good : Outcome b
  unfolding data_at
  in-good =
      let end = body_end b 0 in
      ChunksLaws.by-test (eqb (data_at b end) end) (λ e. without-data (eqb-true _ _ e))
      (λ e. let n = eqb-false (data_at b end) end e in
      with-data (data_at b end) refl n (WalkLaws.found_first b end list_name data_type 12 (IsList b data_type) (WalkLaws.list-to b data_type) (WalkLaws.list-of b data_type) n))

-- the right name and type
pub named-outcome : (b : List ℕ) → u32_at b 0 ≡ riff_name → u32_at b 8 ≡ font_type → Outcome b
named-outcome b e f =
    ChunksLaws.by-test (leb 4 (u32_at b 4))
    (λ h. let typed = leb-true _ _ h in
    ChunksLaws.by-test (leb (body_end b 0) (length b)) (λ k. in-good b (record { riff = e; font = f; formed = record { body-in = leb-true _ _ k; typed = typed } }))
    (λ k. let past = leb-false (body_end b 0) (length b) k in
    unformed e f (λ g. omega (arith, past, g.body-in)) (FormLaws.find-long b e f typed past)))
    (λ h. let short = leb-false 4 (u32_at b 4) h in unformed e f (λ g. omega (arith, short, g.typed)) (FormLaws.find-untyped b e f short))

-- every file
pub outcome : (b : List ℕ) → Outcome b
outcome b =
    ChunksLaws.by-test (eqb (u32_at b 0) riff_name)
    (λ h. let e = eqb-true (u32_at b 0) riff_name h in
    ChunksLaws.by-test (eqb (u32_at b 8) font_type) (λ k. named-outcome b e (eqb-true (u32_at b 8) font_type k))
    (λ k. let n = eqb-false (u32_at b 8) font_type k in other-type e n (FormLaws.find-other-type b e n)))
    (λ h. let n = eqb-false (u32_at b 0) riff_name h in other n (FormLaws.find-other b n))

-- ---- the first fault

-- what is refused by a number and a place
pub by : {b : List ℕ} {n p : ℕ} → find_of b ≡ refused_by n p → FirstFault b n p → FirstFault b (find_of b).number (find_of b).place
unfolding refused_by
by e f = rw e f

pub refusal-is-first : RefusalIsFirst
refusal-is-first b h = go (outcome b)
  where
    go : Outcome b → FirstFault b (find_of b).number (find_of b).place
    go (other n e) =
        by e (record { wrong = no-riff n; before = λ m p w. order 40 m 0 p (from-40 b m p w) (λ z. omega arith) })
    go (other-type r n e) = by e (record { wrong = no-font n; before = λ m p w. type-first b m p r w })
    go (unformed r f n e) =
        by e (record { wrong = no-form n; before = λ m p w. order 41 m 0 p (from-41 b m p r f w) (λ z. omega arith) })
    go (broken-data g d at f k e) =
        by e (record { wrong = in-data d at g.formed f k; before = λ m p w. data-first b g d at m p f k w })
    go (broken-form g s at k e) =
        by e (record { wrong = in-form at g.formed k; before = λ m p w. form-first b g at m p s k w })
    go (silent g s d f n e) =
        by e (record { wrong = no-samples d g.formed f n; before = λ m p w. silent-first b g d m p s f w })
    go (dataless g s n e) =
        by e (record { wrong = no-data g.formed n; before = λ m p w. missing-first b g m p s (λ d f t. n d f.stands) w })
    go (bankless g s d k f i n e) =
        by e (record { wrong = no-bank g.formed n; before = λ m p w. missing-first b g m p s (not-silent b g d k f i) w })
    go (found f) = absurd (h (ap (λ (x : Found). x.number) f.is))

-- a file with the number 0
pub found-facts : (b : List ℕ) → (find_of b).number ≡ 0 → Facts b
unfolding refused_by
found-facts b z = go (outcome b)
  where
    no : (m q : ℕ) → 40 ≤ m → find_of b ≡ refused_by m q → ⊥
    no m q h e = omega (arith, z, ap (λ (x : Found). x.number) e)

    go : Outcome b → Facts b
    go (other n e) = absurd (no 40 0 (omega arith) e)
    go (other-type r n e) = absurd (no 40 8 (omega arith) e)
    go (unformed r f n e) = absurd (no 41 0 (omega arith) e)
    go (broken-data g d at f k e) = absurd (no 41 at (omega arith) e)
    go (broken-form g s at k e) = absurd (no 41 at (omega arith) e)
    go (silent g s d f n e) = absurd (no 42 (body_end b d) (omega arith) e)
    go (dataless g s n e) = absurd (no 42 (body_end b 0) (omega arith) e)
    go (bankless g s d k f i n e) = absurd (no 42 (body_end b 0) (omega arith) e)
    go (found f) = f

pub found-not-amiss : FoundNotAmiss
found-not-amiss b n p z w =
    let f = found-facts b z in
    found-fine b f.good f.d f.s f.p n p f.sound f.data_is f.samples-are f.bank-is w

pub not-amiss-found : NotAmissFound
not-amiss-found b h =
    ChunksLaws.by-test (eqb (find_of b).number 0) (λ e. eqb-true _ _ e)
    (λ e. absurd (h _ _ (refusal-is-first b (eqb-false (find_of b).number 0 e)).wrong))

pub first-is-refused : FirstIsRefused
first-is-refused b n p f =
    let k = refusal-is-first b (λ z. found-not-amiss b n p z f.wrong) in
    ⊎_elim (λ l. absurd (other_way (f.before _ _ k.wrong) l)) (λ e. ⊎_elim (λ l. absurd (omega (arith, e.0, l))) (λ g. (e.0, omega (arith, e.1, g.1))) (f.before _ _ k.wrong))
    (k.before n p f.wrong)
  where
    other_way : {m q : ℕ} → (n < m) ⊎ ((n ≡ m) × (p ≤ q)) → m < n → ⊥
    other_way (inl l) h = omega (arith, l, h)
    other_way (inr e) h = omega (arith, e.0, h)
