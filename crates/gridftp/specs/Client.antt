-- What `gridftp` promises.
use Rattle.std.specs.Prelude.{◌≡◌, ◌⊎◌, ℕ, List, Option, None, Some}
use Rattle.std.specs.Io.KnownBytes.{Appends}
use Rattle.gft_base.specs.Words.{Rose}
use Rattle.gft_book.specs.Words.{SettledFile}
use Rattle.gft_words.specs.Words.{AreMakeWords}
use Rattle.gft_words.specs.declared.ClientWords.{ClientWords}
use Rattle.gft_words.specs.declared.ClientWords.TheVariants.{Make}
use Rattle.gft_gen.specs.Words.{PutsSummary}
use Rattle.gridftp.specs.Line.{out_of_memory_text}
use Rattle.gridftp.specs.declared.status.Status.{Status}
use Rattle.gridftp.specs.declared.status.Status.TheVariants as status

-- the text was put, the status is its own and no put failed; or the put failed
abbrev pub IsPut : Status → List ℕ → Status → Option (List ℕ) → Option (List ℕ) → ℕ → ℕ → Type 0
IsPut own text result before after faults risen =
    ((result ≡ own) × Appends before after text × (risen ≡ faults))
    ⊎ ((result ≡ status.PutFailed) × Rose faults risen)

-- how a generated transfer ends: its summary tells a finished file, or none; or a put failed; or memory was
-- refused
abbrev pub EndsMake : Status → ℕ → ℕ → Option (List ℕ) → Option (List ℕ) → ℕ → ℕ → Type 0
EndsMake status.Done seed size before after faults risen =
    (file : SettledFile) × PutsSummary seed size (Some file) before after × (risen ≡ faults)
EndsMake status.Refused seed size before after faults risen =
    PutsSummary seed size None before after × (risen ≡ faults)
EndsMake status.Usage seed size before after faults risen = ⊥
EndsMake status.PutFailed seed size before after faults risen = Rose faults risen
EndsMake status.OutOfMemory seed size before after faults risen =
    Appends before after out_of_memory_text × (risen ≡ faults)

-- the words are in no grammar, and a text was put
abbrev pub EndsUsage : List (List ℕ) → Option (List ℕ) → Option (List ℕ) → ℕ → ℕ → Type 0
EndsUsage words before after faults risen =
    ((value : ClientWords) → ¬ AreMakeWords words value)
    × ((text : List ℕ) × Appends before after text) × (risen ≡ faults)

-- the words ask for a generated transfer, which ends so
abbrev pub AsksMake : Status → List (List ℕ) → Option (List ℕ) → Option (List ℕ) → ℕ → ℕ → Type 0
AsksMake own words before after faults risen =
    (seed size : ℕ) × AreMakeWords words (Make seed size) × EndsMake own seed size before after faults risen

-- each status, with its cause and what was printed
abbrev pub Ends : Status → List (List ℕ) → Option (List ℕ) → Option (List ℕ) → ℕ → ℕ → Type 0
Ends status.Done words before after faults risen = AsksMake status.Done words before after faults risen
Ends status.Refused words before after faults risen = AsksMake status.Refused words before after faults risen
Ends status.Usage words before after faults risen = EndsUsage words before after faults risen
Ends status.PutFailed words before after faults risen = Rose faults risen
Ends status.OutOfMemory words before after faults risen =
    Appends before after out_of_memory_text × (risen ≡ faults)
