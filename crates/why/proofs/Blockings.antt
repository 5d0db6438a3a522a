-- The blockings of an interval, one after the other: the largest demand so far, and whether some demand grows.
use Rattle.base.proofs.Prelude.{ℕ, suc, ◌+◌, ◌-◌, ◌≤◌, ◌<◌, max, ◌≡◌, refl, Bool, true, false, ◌||◌, cond, [], ◌∷◌, arith, add-one}
use Rattle.base.specs.Count.{largest, any, up_from}

pub blockings-next : (limit b : ℕ) → b ≤ limit → up_from b (suc limit - b) ≡ b ∷ up_from (b + 1) (suc limit - (b + 1))
unfolding up_from
blockings-next limit b h =
    let left : suc limit - b ≡ suc (suc limit - suc b) = omega arith in
    rw (add-one, left)

pub blockings-end : (limit b : ℕ) → limit < b → up_from b (suc limit - b) ≡ []
unfolding up_from
blockings-end limit b h =
    let left : suc limit - b ≡ 0 = omega arith in
    rw left

-- the larger of what was so far and of what is left
pub top-next : (f : ℕ → ℕ) (limit b top more : ℕ) → b ≤ limit → more ≡ max top (f b)
    → max more (largest f (up_from (b + 1) (suc limit - (b + 1)))) ≡ max top (largest f (up_from b (suc limit - b)))
unfolding largest
top-next f limit b top more h e = rw (blockings-next limit b h) (omega arith)

pub top-end : (f : ℕ → ℕ) (limit b top : ℕ) → limit < b → max top (largest f (up_from b (suc limit - b))) ≡ top
unfolding largest
top-end f limit b top h = rw (blockings-end limit b h) (omega arith)

or-next : (found here later : Bool) → ((found || here) || later) ≡ (found || cond here true later)
or-next true here later = refl
or-next false true later = refl
or-next false false later = refl

pub some_next : (f : ℕ → Bool) (limit b : ℕ) (found more : Bool) → b ≤ limit → more ≡ (found || f b)
    → (more || any f (up_from (b + 1) (suc limit - (b + 1)))) ≡ (found || any f (up_from b (suc limit - b)))
unfolding any
some_next f limit b found more h e =
    rw (blockings-next limit b h, e) (or-next found (f b) (any f (up_from (b + 1) (suc limit - (b + 1)))))

or-false : (found : Bool) → (found || false) ≡ found
or-false true = refl
or-false false = refl

pub some_end : (f : ℕ → Bool) (limit b : ℕ) (found : Bool) → limit < b → (found || any f (up_from b (suc limit - b))) ≡ found
unfolding any
some_end f limit b found h = rw (blockings-end limit b h) (or-false found)

-- ---- One that is found

pub any_here : (f : ℕ → Bool) (limit b : ℕ) → b ≤ limit → f b ≡ true → any f (up_from b (suc limit - b)) ≡ true
unfolding any
any_here f limit b h t = rw (blockings-next limit b h, t)

pub any-later : (f : ℕ → Bool) (limit b : ℕ) → b ≤ limit → f b ≡ false
    → any f (up_from (b + 1) (suc limit - (b + 1))) ≡ any f (up_from b (suc limit - b))
unfolding any
any-later f limit b h e = rw (blockings-next limit b h, e)

pub any-end : (f : ℕ → Bool) (limit b : ℕ) → limit < b → any f (up_from b (suc limit - b)) ≡ false
unfolding any
any-end f limit b h = rw (blockings-end limit b h)
