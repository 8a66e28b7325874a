-- A drive that keeps what was done to it obeys the rules of a drive.
use Rattle.std.proofs.Common.{◌≡◌, inl, inr, ⊎_elim, ℕ, ◌+◌, ◌-◌, ◌≤◌, Bool, true, false, ◌&&◌, cond}
use Rattle.std.proofs.Common.{List, [], ◌∷◌, ◌++◌, length, get_or, take, drop, replicate, refl, sym}
use Rattle.std.proofs.Common.{◌∙◌, ap, subst, arith, length-append, length-drop}
use Rattle.std.proofs.lemmas.List.{get_or_append_left, get_or-append_right, get_or-take, get_or-drop}
use Rattle.std.proofs.lemmas.List.{get_or_past, get_or-replicate}
use Rattle.std.proofs.Math.ListN.{length-replicate, length-take}
use Rattle.std.proofs.lemmas.Bool.{cases_lt}
use Rattle.gft_drive.specs.Drive.{Image, IsLawful}
use Rattle.gft_drive.specs.Write.{Written, Torn, TornCut}
use Rattle.gft_drive.specs.declared.drive.Part.{Part}
use Rattle.gft_drive.specs.declared.drive.Part.TheVariants.{Bytes, Ranges}
use Rattle.gft_drive.specs.declared.disk.Step.{Step}
use Rattle.gft_drive.specs.declared.disk.Step.TheVariants.{Write, Cut, Sync}
use Rattle.gft_drive.specs.Replay.{Recorded, is_on, overwritten, content_after, image_after, LeftAfter}
use Rattle.gft_drive.specs.Replay.{ImagesAfter, ImagesSince, state_after}

module _ (at : ℕ) (bytes old : List ℕ) where
  padded : List ℕ
  padded = old ++ replicate (at - length old) 0

  at_padded : (k : ℕ) → get_or (old ++ replicate (at - length old) 0) k 0 ≡ get_or old k 0
  at_padded k = ⊎_elim
      (λ below. get_or_append_left old (replicate (at - length old) 0) 0 k below)
      (λ above. get_or-append_right old (replicate (at - length old) 0) (length old) k 0 refl above ∙ zeros
      (at - length old) (k - length old) ∙ sym (get_or_past old k 0 above))
      (cases_lt k (length old))
    where
      zeros : (n i : ℕ) → get_or {A = ℕ} (replicate n 0) i 0 ≡ 0
      zeros n i = ⊎_elim (λ below. get_or-replicate {A = ℕ} n i 0 0 below)
          (λ above. get_or_past {X = ℕ} (replicate n 0) i 0
          (omega (arith, above, length-replicate {A = ℕ} n 0))) (cases_lt i n)

  front_long : length (take at (old ++ replicate (at - length old) 0)) ≡ at
  front_long = omega (
    arith,
    length-take at (old ++ replicate (at - length old) 0),
    length-append old
        (replicate (at - length old) 0),
    length-replicate {A = ℕ} (at - length old) 0,
  )

  abbrev front : List ℕ
  front = take at (old ++ replicate (at - length old) 0)

  both_long : length (front ++ bytes) ≡ at + length bytes
  both_long = omega (arith, length-append front bytes, front_long)

  pub overwrites : Written at bytes old (overwritten at bytes old)
  overwrites = record {
    inside = λ k lt.
        get_or_append_left (front ++ bytes) (drop (at + length bytes) old) 0 (at + k)
        (omega (arith, lt, both_long))
        ∙ get_or-append_right front bytes at (at + k) 0 front_long (omega arith)
        ∙ ap (λ (i : ℕ). get_or bytes i 0) (minus k);
    before = λ k lt.
        get_or_append_left (front ++ bytes) (drop (at + length bytes) old) 0 k (omega (arith, lt, both_long))
        ∙ get_or_append_left front bytes 0 k (omega (arith, lt, front_long))
        ∙ get_or-take at (old ++ replicate (at - length old) 0) k 0 lt
        ∙ at_padded k;
    after = λ k le.
        get_or-append_right (front ++ bytes) (drop (at + length bytes) old)
        (at + length bytes) k 0 both_long le
        ∙ get_or-drop (at + length bytes) old (k - (at + length bytes)) 0
        ∙ ap (λ (i : ℕ). get_or old i 0) (plus k le);
    size = omega (
      arith,
      length-append (front ++ bytes) (drop (at + length bytes) old),
      both_long,
      length-drop (at + length bytes) old,
    );
  }
    where
      minus : (k : ℕ) → at + k - at ≡ k
      minus k = omega arith

      plus : (k : ℕ) → at + length bytes ≤ k → at + length bytes + (k - (at + length bytes)) ≡ k
      plus k le = omega (arith, le)

-- what a write of at most n bytes leaves, a torn one of n bytes may leave
pub torn_written : (at n : ℕ) (bytes old new : List ℕ) → length bytes ≤ n → Written at bytes old new
    → Torn at n old new
torn_written at n bytes old new few written = record {
  before = λ x lt below. written.before x below;
  after = λ x lt above. written.after x (omega (arith, above, few));
  no_shorter = omega (arith, written.size);
  no_longer = omega (arith, written.size, few);
}

pub torn_refl : (at n : ℕ) (xs : List ℕ) → Torn at n xs xs
torn_refl at n xs = record {
  before = λ x lt below. refl;
  after = λ x lt above. refl;
  no_shorter = omega arith;
  no_longer = omega arith;
}

pub torn_cut_refl : (len : ℕ) (xs : List ℕ) → TornCut len xs xs
torn_cut_refl len xs = record {
  before = λ x lt below. refl;
  no_shorter = omega arith;
  no_longer = omega arith;
}

pub torn_cut : (len more : ℕ) (xs : List ℕ) → len ≤ more → TornCut len xs (take more xs)
torn_cut len more xs le = record {
  before = λ x lt below. get_or-take more xs x 0 (omega (arith, below, le));
  no_shorter = omega (arith, length-take more xs, le);
  no_longer = omega (arith, length-take more xs);
}

-- what a read gives is one of the images
left_write : (here is_done : Bool) (at : ℕ) (bytes read : List ℕ) (may : List ℕ → Type 0) → may read
    → cond here ((from : List ℕ) × may from × Torn at (length bytes) from
    (cond (here && is_done) (overwritten at bytes read) read))
    (may (cond (here && is_done) (overwritten at bytes read) read))
left_write true true at bytes read may is =
    (read, is, torn_written at (length bytes) bytes read _ (omega arith) (overwrites at bytes read))
left_write true false at bytes read may is = (read, is, torn_refl at (length bytes) read)
left_write false is_done at bytes read may is = is

left_cut : (here : Bool) (len : ℕ) (read : List ℕ) (may : List ℕ → Type 0) → may read
    → cond here ((from : List ℕ) × may from × TornCut len from (cond here (take len read) read))
    (may (cond here (take len read) read))
left_cut true len read may is = (read, is, torn_cut len len read (omega arith))
left_cut false len read may is = is

left_sync : (here : Bool) (read : List ℕ) (may : List ℕ → Type 0) → may read → cond here (read ≡ read)
    (may read)
left_sync true read may is = refl
left_sync false read may is = is

pub left_content : (first : Image) (steps : List Step) (part : Part) → LeftAfter first steps part
    (content_after first steps part)
left_content first [] part = refl
left_content first (Write on at bytes is_done ∷ older) part = left_write
    (is_on on part) is_done at bytes.items (content_after first older part) (LeftAfter first older part)
    (left_content first older part)
left_content first (Cut on len ∷ older) part = left_cut (is_on on part) len (content_after first older part)
    (LeftAfter first older part) (left_content first older part)
left_content first (Sync on ∷ older) part = left_sync (is_on on part) (content_after first older part)
    (LeftAfter first older part) (left_content first older part)

-- an image now is one since now
pub since_now : (first : Image) (steps : List Step) (t : ℕ) (image : Image) → ImagesAfter first steps image
    → ImagesSince first steps t image
since_now first [] t image is = is
since_now first (s ∷ older) t image is = inl is

since_earlier : (first : Image) (steps : List Step) (t u : ℕ) (image : Image) → t ≤ u
    → ImagesSince first steps u image → ImagesSince first steps t image
since_earlier first [] t u image le left = left
since_earlier first (s ∷ older) t u image le (inl now) = inl now
since_earlier first (s ∷ older) t u image le (inr was) = inr
    (omega (arith, le, was.0), since_earlier first older t u image le was.1)

pub lawful : (label : List ℕ) (disk : Recorded) (faults : ℕ) → IsLawful (state_after label disk faults)
lawful label disk faults = record {
  since = λ t u image le within left. since_earlier disk.first disk.steps t u image le left;
  read = λ image told.
      let same : image_after disk.first disk.steps ≡ image = cc told in
      subst (λ (i : Image). ImagesSince disk.first disk.steps (length disk.steps) i) same
      (since_now disk.first disk.steps (length disk.steps) (image_after disk.first disk.steps)
      (left_content disk.first disk.steps Bytes, left_content disk.first disk.steps Ranges));
}
