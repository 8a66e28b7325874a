-- No words have two values, and values are in their ranges.
use Rattle.std.proofs.Common.{◌≡◌, ℕ, ◌≤◌, ◌^◌, List, [], ◌∷◌, sym, ◌∙◌, lit≤, arith}
use Rattle.gft_base.proofs.Lemmas.{AllZip-one, IsNumber-one}
use Rattle.gft_text.specs.Words.{IsByte}
use Rattle.gft_words.specs.Arguments.{Given}
use Rattle.gft_words.specs.Make.{AreMakeWords}
use Rattle.gft_words.specs.Options.{IsAddress, IsOneOr, IsWithin}
use Rattle.gft_words.specs.Serve.{AreInRange, AreServeWords, SaysServe}
use Rattle.gft_words.specs.declared.client.ClientWords.{ClientWords}
use Rattle.gft_words.specs.declared.client.ClientWords.TheVariants.{Make}
use Rattle.gft_words.specs.declared.server.ServerWords.{ServerWords}
use Rattle.gft_words.proofs.ArgumentLemmas.{gives-one, heads}

IsOneOr-one : {A : Type 0} (Is : List ℕ → A → Type 0) → ((text : List ℕ) (a b : A) → Is text a → Is text b → a ≡ b) → (default : A) (values : List (List ℕ)) (a b : A) → IsOneOr Is default values a → IsOneOr Is default values b → a ≡ b
IsOneOr-one Is one default [] a b x y = x ∙ sym y
IsOneOr-one Is one default (value ∷ []) a b x y = one value a b x y
IsOneOr-one Is one default (value ∷ other ∷ more) a b x y = absurd x

IsOneOr-range : (least most default : ℕ) (values : List (List ℕ)) (n : ℕ) → least ≤ default → default ≤ most → IsOneOr (IsWithin least most) default values n → (least ≤ n) × (n ≤ most)
IsOneOr-range least most default [] n low high is = (omega (arith, low, is), omega (arith, high, is))
IsOneOr-range least most default (value ∷ []) n low high is = (is.low, is.high)
IsOneOr-range least most default (value ∷ other ∷ more) n low high is = absurd is

IsAddress-one : (text a b : List ℕ) → IsAddress text a → IsAddress text b → a ≡ b
IsAddress-one text a b x y = AllZip-one IsByte (λ part m n of_m of_n. IsNumber-one part m n of_m.number of_n.number) _ a b x.numbers y.numbers

number-one : (least most default : ℕ) (values : List (List ℕ)) (m n : ℕ) → IsOneOr (IsWithin least most) default values m → IsOneOr (IsWithin least most) default values n → m ≡ n
number-one least most default values m n x y = IsOneOr-one (IsWithin least most) (λ text i j of_i of_j. IsNumber-one text i j of_i.number of_j.number) default values m n x y

pub serve-one : (words : List (List ℕ)) (a b : ServerWords) → AreServeWords words a → AreServeWords words b → a ≡ b
serve-one words a b x y =
    let options = heads _ _ _ _ (sym x.begun ∙ y.begun) in
    let given = gives-one y.options x.given y.given (rw (← options.1) x.read) y.read in
    says x.given x.says (rw given y.says) where
      make : List ℕ → ℕ → ℕ → ℕ → ℕ → ℕ → ServerWords
      make host port workers stripes marker_bytes idle = record {
        at = record { host = host; port = port };
        workers = workers;
        config = record { stripes = stripes; marker_bytes = marker_bytes; idle = idle };
      }

      says : (given : List Given) → SaysServe given a → SaysServe given b → a ≡ b
      says given p q =
          let host = IsOneOr-one IsAddress IsAddress-one _ _ _ _ p.address q.address in
          let port = number-one 1 65535 2811 _ _ _ p.port q.port in
          let workers = number-one 1 64 8 _ _ _ p.workers q.workers in
          let stripes = number-one 1 16 4 _ _ _ p.stripes q.stripes in
          let marker_bytes = number-one 1 (2 ^ 40) 67108864 _ _ _ p.marker_bytes q.marker_bytes in
          let idle = number-one 1 1000000 600 _ _ _ p.idle q.idle in
          let same : make a.at.host a.at.port a.workers a.config.stripes a.config.marker_bytes a.config.idle ≡ make b.at.host b.at.port b.workers b.config.stripes b.config.marker_bytes b.config.idle = cc in
          same

pub serve-range : (words : List (List ℕ)) (value : ServerWords) → AreServeWords words value → AreInRange value
serve-range words value are = record {
  port = (IsOneOr-range 1 65535 2811 _ _ (lit≤ tt) (lit≤ tt) are.says.port).0;
  workers = IsOneOr-range 1 64 8 _ _ (lit≤ tt) (lit≤ tt) are.says.workers;
  stripes = IsOneOr-range 1 16 4 _ _ (lit≤ tt) (lit≤ tt) are.says.stripes;
  marker_bytes = IsOneOr-range 1 (2 ^ 40) 67108864 _ _ (lit≤ tt) (lit≤ tt) are.says.marker_bytes;
  idle = IsOneOr-range 1 1000000 600 _ _ (lit≤ tt) (lit≤ tt) are.says.idle;
}

pub make-one : (words : List (List ℕ)) (a b : ClientWords) → AreMakeWords words a → AreMakeWords words b → a ≡ b
make-one words (Make s n) (Make t m) x y =
    let first = heads _ _ _ _ (sym x.whole ∙ y.whole) in
    let second = heads _ _ _ _ first.1 in
    let third = heads _ _ _ _ second.1 in
    let seed = IsNumber-one x.seed s t x.says.0 (rw second.0 y.says.0) in
    let size = IsNumber-one x.size n m x.says.1.number (rw third.0 y.says.1.number) in
    cc
