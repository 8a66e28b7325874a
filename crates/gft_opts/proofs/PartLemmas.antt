-- Parts of a file in text.
use Rattle.std.proofs.Common.{◌≡◌, ℕ, ◌<◌, ◌^◌, not, Bool, true, false, eqb, List, [], ◌∷◌, ◌++◌, codes, Option, Some, None, refl, sym, ap, ◌∙◌, arith, lit<}
use Rattle.std.specs.Fmt.{decimal}
use Rattle.std.specs.Option.{is_some}
use Rattle.std.specs.List.{position}
use Rattle.std.proofs.lemmas.List.Splits.{slice_split_none}
use Rattle.gft_base.specs.Words.{parts_at, Lacks, IsNumber}
use Rattle.gft_base.proofs.Lemmas.{part_alone, parts_join, position-None, position-none_from, IsNumber-decimal, IsNumber-one}
use Rattle.gft_opts.specs.Word.{IsWord}
use Rattle.gft_opts.specs.Part.{FitsEret, FitsEsto, IsEret, IsEsto, IsOffset, IsPath, eret_text, esto_text}
use Rattle.gft_opts.specs.declared.part.Eret.{Eret}
use Rattle.gft_opts.specs.declared.part.Esto.{Esto}
use Rattle.gft_text.proofs.Lemmas.{literal_lacks, decimal_lacks}

-- no place of a space is found
pub no_space : (path : List ℕ) (found : Option ℕ) (none : Bool) → found ≡ position (λ b. eqb b 32) path → is_some found ≡ not none → none ≡ true → Lacks 32 path
no_space path None none is test none_is = position-None (λ b. eqb b 32) path (sym is)
no_space path (Some at) true is test none_is = absurd (cc test)
no_space path (Some at) false is test none_is = absurd (cc none_is)

pub space_none : (path : List ℕ) (found : Option ℕ) (none : Bool) → found ≡ position (λ b. eqb b 32) path → is_some found ≡ not none → Lacks 32 path → none ≡ true
space_none path found true is test lacks = refl
space_none path found false is test lacks =
    let same : found ≡ None = is ∙ position-none_from (λ b. eqb b 32) path lacks in
    absurd (cc (ap (λ (o : Option ℕ). is_some o) same))

-- the words of a text are the same for each value of it
pub record EretWords (mode offset size path : List ℕ) (eret : Eret) : Type 0 where
  pub mode_is : IsWord (codes "P") mode
  pub offset_is : IsOffset offset eret.offset
  pub size_is : IsNumber size eret.size
  pub path_is : path ≡ eret.path
  pub name : IsPath path

pub eret_words : (text mode a offset b size path : List ℕ) (eret : Eret) → parts_at 32 text ≡ mode ∷ parts_at 32 a → parts_at 32 a ≡ offset ∷ parts_at 32 b → parts_at 32 b ≡ size ∷ parts_at 32 path → IsEret text eret → EretWords mode offset size path eret
eret_words text mode a offset b size path eret one two three is =
    let words = is.words in
    let mode_same : is.mode ≡ mode = cc in
    let offset_same : is.offset ≡ offset = cc in
    let size_same : is.size ≡ size = cc in
    let last : parts_at 32 path ≡ eret.path ∷ [] = cc in
    let path_same = part_alone 32 path eret.path last in
    record {
      mode_is = rw (← mode_same) is.mode_is;
      offset_is = rw (← offset_same) is.offset_is;
      size_is = rw (← size_same) is.size_is;
      path_is = path_same;
      name = rw path_same is.path_is;
    }

pub eret_of : (text mode a offset b size path : List ℕ) (eret : Eret) → parts_at 32 text ≡ mode ∷ parts_at 32 a → parts_at 32 a ≡ offset ∷ parts_at 32 b → parts_at 32 b ≡ size ∷ parts_at 32 path → EretWords mode offset size path eret → IsEret text eret
eret_of text mode a offset b size path eret one two three words =
    let last = slice_split_none (λ b. eqb b 32) path words.name.single in
    let path_is = words.path_is in
    record {
      mode = mode;
      offset = offset;
      size = size;
      words = one ∙ ap (λ (x : List (List ℕ)). mode ∷ x) (two ∙ ap (λ (x : List (List ℕ)). offset ∷ x) (three ∙ ap (λ (x : List (List ℕ)). size ∷ x) (last ∙ ap (λ (x : List ℕ). x ∷ []) path_is)));
      mode_is = words.mode_is;
      offset_is = words.offset_is;
      size_is = words.size_is;
      path_is = rw (← path_is) words.name;
    }

pub record EstoWords (mode offset path : List ℕ) (esto : Esto) : Type 0 where
  pub mode_is : IsWord (codes "A") mode
  pub offset_is : IsOffset offset esto.offset
  pub path_is : path ≡ esto.path
  pub name : IsPath path

pub esto_words : (text mode a offset path : List ℕ) (esto : Esto) → parts_at 32 text ≡ mode ∷ parts_at 32 a → parts_at 32 a ≡ offset ∷ parts_at 32 path → IsEsto text esto → EstoWords mode offset path esto
esto_words text mode a offset path esto one two is =
    let words = is.words in
    let mode_same : is.mode ≡ mode = cc in
    let offset_same : is.offset ≡ offset = cc in
    let last : parts_at 32 path ≡ esto.path ∷ [] = cc in
    let path_same = part_alone 32 path esto.path last in
    record {
      mode_is = rw (← mode_same) is.mode_is;
      offset_is = rw (← offset_same) is.offset_is;
      path_is = path_same;
      name = rw path_same is.path_is;
    }

pub esto_of : (text mode a offset path : List ℕ) (esto : Esto) → parts_at 32 text ≡ mode ∷ parts_at 32 a → parts_at 32 a ≡ offset ∷ parts_at 32 path → EstoWords mode offset path esto → IsEsto text esto
esto_of text mode a offset path esto one two words =
    let last = slice_split_none (λ b. eqb b 32) path words.name.single in
    let path_is = words.path_is in
    record {
      mode = mode;
      offset = offset;
      words = one ∙ ap (λ (x : List (List ℕ)). mode ∷ x) (two ∙ ap (λ (x : List (List ℕ)). offset ∷ x) (last ∙ ap (λ (x : List ℕ). x ∷ []) path_is));
      mode_is = words.mode_is;
      offset_is = words.offset_is;
      path_is = rw (← path_is) words.name;
    }

-- what is written is read again
pub eret_written : (eret : Eret) → FitsEret eret → IsEret (eret_text eret) eret
eret_written eret fits =
    let offset_fits : eret.offset < 2 ^ 64 = omega (arith, fits.offset) in
    let path_text : List ℕ = eret.path in
    let size_text : List ℕ = decimal eret.size ++ 32 ∷ path_text in
    let offset_text : List ℕ = decimal eret.offset ++ 32 ∷ size_text in
    eret_of (eret_text eret) (codes "P") offset_text (decimal eret.offset) size_text (decimal eret.size) path_text eret
    (parts_join 32 (codes "P") offset_text (literal_lacks 32 (codes "P") refl))
    (parts_join 32 (decimal eret.offset) size_text (decimal_lacks 32 eret.offset (lit< tt) offset_fits))
    (parts_join 32 (decimal eret.size) path_text (decimal_lacks 32 eret.size (lit< tt) fits.size))
    (record {
      mode_is = refl;
      offset_is = record { number = IsNumber-decimal eret.offset offset_fits; limited = fits.offset };
      size_is = IsNumber-decimal eret.size fits.size;
      path_is = refl;
      name = fits.path;
    })

pub esto_written : (esto : Esto) → FitsEsto esto → IsEsto (esto_text esto) esto
esto_written esto fits =
    let offset_fits : esto.offset < 2 ^ 64 = omega (arith, fits.offset) in
    let path_text : List ℕ = esto.path in
    let offset_text : List ℕ = decimal esto.offset ++ 32 ∷ path_text in
    esto_of (esto_text esto) (codes "A") offset_text (decimal esto.offset) path_text esto
    (parts_join 32 (codes "A") offset_text (literal_lacks 32 (codes "A") refl))
    (parts_join 32 (decimal esto.offset) path_text (decimal_lacks 32 esto.offset (lit< tt) offset_fits))
    (record {
      mode_is = refl;
      offset_is = record { number = IsNumber-decimal esto.offset offset_fits; limited = fits.offset };
      path_is = refl;
      name = fits.path;
    })

-- ---- one value, which fits

pub eret_one : (text : List ℕ) (a b : Eret) → IsEret text a → IsEret text b → a ≡ b
eret_one text a b of_a of_b =
    let words = sym of_a.words ∙ of_b.words in
    let offset_text : of_a.offset ≡ of_b.offset = cc words in
    let size_text : of_a.size ≡ of_b.size = cc words in
    let path : a.path ≡ b.path = cc words in
    let offset = IsNumber-one of_b.offset a.offset b.offset (rw (← offset_text) of_a.offset_is.number) of_b.offset_is.number in
    let size = IsNumber-one of_b.size a.size b.size (rw (← size_text) of_a.size_is) of_b.size_is in
    let with_offset : ℕ → Eret = λ o. record { offset = o; size = a.size; path = a.path } in
    let with_size : ℕ → Eret = λ s. record { offset = b.offset; size = s; path = a.path } in
    let with_path : List ℕ → Eret = λ p. record { offset = b.offset; size = b.size; path = p } in
    ap with_offset offset ∙ ap with_size size ∙ ap with_path path

pub esto_one : (text : List ℕ) (a b : Esto) → IsEsto text a → IsEsto text b → a ≡ b
esto_one text a b of_a of_b =
    let words = sym of_a.words ∙ of_b.words in
    let offset_text : of_a.offset ≡ of_b.offset = cc words in
    let path : a.path ≡ b.path = cc words in
    let offset = IsNumber-one of_b.offset a.offset b.offset (rw (← offset_text) of_a.offset_is.number) of_b.offset_is.number in
    let with_offset : ℕ → Esto = λ o. record { offset = o; path = a.path } in
    let with_path : List ℕ → Esto = λ p. record { offset = b.offset; path = p } in
    ap with_offset offset ∙ ap with_path path

pub eret_fits : (text : List ℕ) (eret : Eret) → IsEret text eret → FitsEret eret
eret_fits text eret is = record { offset = is.offset_is.limited; size = is.size_is.fits; path = is.path_is }

pub esto_fits : (text : List ℕ) (esto : Esto) → IsEsto text esto → FitsEsto esto
esto_fits text esto is = record { offset = is.offset_is.limited; path = is.path_is }
