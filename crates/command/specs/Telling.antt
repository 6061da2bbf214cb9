-- What the words of a line tell, one by one. Only private functions cite this.
use Rattle.std.specs.Prelude.{◌≡◌, ℕ, List, ◌∷◌, map, take, Some, None, Ok, Err, Option, Result, ◌≢◌, [], slice_get}
use Rattle.std.specs.List.{AllByRecursion}
use Rattle.settling.specs.declared.step.Step.{Step}
use Rattle.command.specs.Reading.{Begins, Read}
use Rattle.command.specs.Words.{words, placed}
use Rattle.command.specs.declared.command.Columns.{Columns}
use Rattle.command.specs.declared.command.Verb.{Verb}
use Rattle.command.specs.declared.fault.TextFault.{TextFault}
use Rattle.command.specs.declared.fault.TextFault.TheVariants.{NoForm}
use Rattle.command.specs.declared.word.Word.{Word}

-- words as plain data: each with its bytes and its column
abbrev pub views : List Word → List (List ℕ × ℕ)
views ws = map (λ w. (w.bytes.now, w.column)) ws

-- each word has a byte
abbrev pub Full : List Word → Type 0
Full ws = AllByRecursion (λ w. w.bytes.now ≢ []) ws

-- the reader's value, or the fault that the word at this column lacks its form, where the reader gives none
abbrev pub FormRead : {A : Type 0} → (Option A → Type 0) → ℕ → Result A TextFault → Type 0
FormRead P column (Ok x) = P (Some x)
FormRead P column (Err f) = P None × (f ≡ NoForm column)

-- a line that begins with this command has this name and these words behind it, of which at most four are told apart, and
-- each of these has a byte
pub record Given (line : List ℕ) (v : Verb) (name : Word) (ws : List Word) : Type 0 where
  pub begins : Begins line v
  pub held : take 5 (placed 1 (words line)) ≡ views (name ∷ ws)
  pub full : Full ws

-- what the command and the words behind it are read as, whatever line holds them
pub record Tell (v : Verb) (ws : List Word) (r : Result Step TextFault) : Type 0 where
  pub told : (line : List ℕ) (name : Word) → Given line v name ws → Read line r

-- the columns of the words behind the name
abbrev pub columns_of : List Word → Columns
columns_of ws = let columns = map (λ w. w.column) ws in record { first = slice_get columns 0; second = slice_get columns 1; third = slice_get columns 2 }
