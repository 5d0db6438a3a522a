-- Version 01 to 02 and back (document 02, W-208), of what `to_02` and `to_01` answered. Their arguments are the text, the page and the
-- place; the turned text is what stands in the page from the place on.
use Rattle.base.proofs.Prelude.{ℕ, ◌≡◌, sym, ap, ◌∙◌, ◌↔◌, false, length, take, drop}
use Rattle.faults.specs.Checks.{Refused, Lawful}
use Rattle.faults.specs.declared.Refusal.{Refusal}
use Rattle.std.specs.Prelude.{Ok, Result}
use Rattle.rules.specs.declared.Answers.{Answers}
use Rattle.faults.specs.declared.Fault.TheVariants.{CostsDiffer}
use Rattle.rules.specs.Layout.{version01, version02}
use Rattle.rules.specs.Text.{reading_in}
use Rattle.rules.specs.Answer.{answer_of}
use Rattle.writing.specs.Saved.{no_room, first_other}
use Rattle.roundtrip.specs.OneText.{OneCost}
use Rattle.turning.specs.Turned.{line_of, turned_text, turned_answer}
use Rattle.turning.proofs.{InPage.{turned-read, turned-alike, turned-stands}, ThereAndBack.{reads-02, one-cost-01, back-to-01, same-turned-02, back-to-02, same-turned-01, alike-one, to-01-exactly, to-01-differs}}
use Rattle.answers.proofs.answer.Reads as answer
use Rattle.turning.proofs.to_02.Reads as to-02
use Rattle.turning.proofs.to_01.Reads as to-01
use contract.Lifetimes.{Lfts}

-- ---- What stands in the page

module _ (κs : Lfts 2) (a : _) (e : _) (len : ℕ) where
  to-02-stands : to-02.Learnt κs a (Ok len) e
      → ((reading_in version01 a.0.now).checked ≡ Lawful)
      × (take len (drop a.1.1.0 e.1.0.now) ≡ turned_text version01 version02 a.0.now)
  to-02-stands did = (
    turned-read version01 version02 a.0.now a.1.0.now a.1.1.0 len (sym did.0),
    ap (λ page. take len (drop a.1.1.0 page)) did.1.0
        ∙ turned-stands version01 version02 a.0.now a.1.0.now a.1.1.0 len (sym did.0),
  )

  to-01-stands : to-01.Learnt κs a (Ok len) e
      → ((reading_in version02 a.0.now).checked ≡ Lawful)
      × (take len (drop a.1.1.0 e.1.0.now) ≡ turned_text version02 version01 a.0.now)
  to-01-stands did = (
    turned-read version02 version01 a.0.now a.1.0.now a.1.1.0 len (sym did.0),
    ap (λ page. take len (drop a.1.1.0 page)) did.1.0
        ∙ turned-stands version02 version01 a.0.now a.1.0.now a.1.1.0 len (sym did.0),
  )

  to-01-one : (did : to-01.Learnt κs a (Ok len) e) → OneCost (reading_in version02 a.0.now).plan
  to-01-one did =
      alike-one a.0.now (to-01-stands did).0 _
      (turned-alike version02 version01 a.0.now a.1.0.now a.1.1.0 len (sym did.0))

  -- verdict, search and run are the same before and after
  pub to-02-answers-same : to-02.Learnt κs a (Ok len) e → answer_of (take len (drop a.1.1.0 e.1.0.now)) ≡ answer_of a.0.now
  to-02-answers-same did =
      let stands = to-02-stands did in
      ap answer_of stands.1 ∙ same-turned-02 a.0.now stands.0

  pub to-01-answers-same : to-01.Learnt κs a (Ok len) e → answer_of (take len (drop a.1.1.0 e.1.0.now)) ≡ answer_of a.0.now
  to-01-answers-same did =
      let stands = to-01-stands did in
      ap answer_of stands.1 ∙ same-turned-01 a.0.now stands.0 (to-01-one did)

-- ---- There and back

module _ (κs κt : Lfts 2) (a b : _) (e f : _) (len size : ℕ) where
  -- version 01 to 02 and back gives the bytes that were
  pub to-02-and-back : to-02.Learnt κs a (Ok len) e → to-01.Learnt κt b (Ok size) f
      → b.0.now ≡ take len (drop a.1.1.0 e.1.0.now) → take size (drop b.1.1.0 f.1.0.now) ≡ a.0.now
  to-02-and-back there back same =
      let stands = to-02-stands κs a e len there in
      (to-01-stands κt b f size back).1 ∙ ap (turned_text version02 version01) (same ∙ stands.1) ∙ back-to-01 a.0.now stands.0

  -- version 02 to 01 and back gives the bytes that were
  pub to-01-and-back : to-01.Learnt κs a (Ok len) e → to-02.Learnt κt b (Ok size) f
      → b.0.now ≡ take len (drop a.1.1.0 e.1.0.now) → take size (drop b.1.1.0 f.1.0.now) ≡ a.0.now
  to-01-and-back there back same =
      let stands = to-01-stands κs a e len there in
      (to-02-stands κt b f size back).1 ∙ ap (turned_text version01 version02) (same ∙ stands.1)
      ∙ back-to-02 a.0.now stands.0 (to-01-one κs a e len there)

-- version 01 to 02 and back is never refused, given room
pub to-02-and-back-goes : (κs κt : Lfts 2) (a b : _) (e f : _) (len : ℕ) (r : Result ℕ Refusal)
    → to-02.Learnt κs a (Ok len) e → to-01.Learnt κt b r f → b.0.now ≡ take len (drop a.1.1.0 e.1.0.now)
    → no_room b.1.0.now b.1.1.0 a.0.now ≡ false → r ≡ Ok (length a.0.now)
to-02-and-back-goes κs κt a b e f len r there back same room =
    let text = a.0.now in
    let stands = to-02-stands κs a e len there in
    let lawful = stands.0 in
    let in-02 = turned_text version01 version02 text in
    let is : b.0.now ≡ in-02 = same ∙ stands.1 in
    let back-again = back-to-01 text lawful in
    let fits : no_room b.1.0.now b.1.1.0 (turned_text version02 version01 in-02) ≡ false =
    ap (no_room b.1.0.now b.1.1.0) back-again ∙ room in
    let goes = to-01-exactly in-02 (ap (λ s. s.checked) (reads-02 text lawful) ∙ lawful) b.1.0.now b.1.1.0 fits in
    back.0
    ∙ ap (λ t. turned_answer version02 version01 t b.1.0.now b.1.1.0) is
    ∙ goes.1 (one-cost-01 text lawful) ∙ ap (λ t. Ok (length t)) back-again

-- ---- The desk's answer for a file and for the turned file

module _ (κt κu : Lfts 1) (b c : _) (f g : _) (r s : Result Answers Refusal) (before : answer.Learnt κt b r f)
    (after : answer.Learnt κu c s g) where
  pub to-02-answered-same : (κs : Lfts 2) (a : _) (e : _) (len : ℕ) → to-02.Learnt κs a (Ok len) e
      → b.0.now ≡ a.0.now → c.0.now ≡ take len (drop a.1.1.0 e.1.0.now) → s ≡ r
  to-02-answered-same κs a e len did of turned =
      after.0 ∙ ap answer_of turned ∙ to-02-answers-same κs a e len did ∙ ap answer_of (sym of) ∙ sym before.0

  pub to-01-answered-same : (κs : Lfts 2) (a : _) (e : _) (len : ℕ) → to-01.Learnt κs a (Ok len) e
      → b.0.now ≡ a.0.now → c.0.now ≡ take len (drop a.1.1.0 e.1.0.now) → s ≡ r
  to-01-answered-same κs a e len did of turned =
      after.0 ∙ ap answer_of turned ∙ to-01-answers-same κs a e len did ∙ ap answer_of (sym of) ∙ sym before.0

-- ---- When a file of version 02 goes into version 01

module _ (κs : Lfts 2) (a : _) (e : _) (r : Result ℕ Refusal) (did : to-01.Learnt κs a r e)
    (lawful : (reading_in version02 a.0.now).checked ≡ Lawful)
  where
    -- in a page with room: exactly when all moving costs are equal
    pub goes-exactly : no_room a.1.0.now a.1.1.0 (turned_text version02 version01 a.0.now) ≡ false
        → (r ≡ Ok (length (turned_text version02 version01 a.0.now))) ↔ OneCost (reading_in version02 a.0.now).plan
    goes-exactly room =
        let exactly = to-01-exactly a.0.now lawful a.1.0.now a.1.1.0 room in
        (λ is. exactly.0 (sym did.0 ∙ is), λ one. did.0 ∙ exactly.1 one)

    -- else 12, in any page
    pub goes-not : (OneCost (reading_in version02 a.0.now).plan → ⊥)
        → r ≡ Refused CostsDiffer (line_of (first_other (reading_in version02 a.0.now).plan))
    goes-not not-one = did.0 ∙ to-01-differs a.0.now lawful a.1.0.now a.1.1.0 not-one
