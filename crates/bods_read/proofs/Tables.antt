-- Reading line by line is the first fault of the table.
use Rattle.std.proofs.Common.{◌≡◌, List, ◌++◌, Result, Ok, Err, IsErrAnd, Option, Some, arith}
use Rattle.serde_json.specs.Data.{Data}
use Rattle.bods_read.specs.declared.fault.Field.{Field}
use Rattle.bods_read.specs.declared.fault.Fault.{Fault}
use Rattle.bods_read.specs.declared.trouble.Trouble.{Trouble}
use Rattle.bods_read.specs.Outcome.{outcome, Fails, Gives}
use Rattle.bods_read.specs.Member.{required, required_value, optional_value}

-- the lines before and after one another
pub ok_lines : {F A X : Type 0} (lines more : List F) (a b : A) (x y : X) → outcome lines a ≡ Ok b → outcome more x ≡ Ok y → outcome (lines ++ more) x ≡ Ok y
ok_lines lines more a b x y e h = grind arith

pub fails_here : {A X : Type 0} (e : Trouble) (lines more : List Fault) (a : A) (x : X) → Fails e (outcome lines a) → Fails e (outcome (lines ++ more) x)
fails_here e lines more a x h = grind arith

pub fails_later : {A X : Type 0} (e : Trouble) (lines more : List Fault) (a b : A) (x : X) → outcome lines a ≡ Ok b → Fails e (outcome more x) → Fails e (outcome (lines ++ more) x)
fails_later e lines more a b x ok h = grind arith

-- a required member without a fault stands for what was read of it
pub required_is : {X : Type 0} (field : Field) (form : Data → Option X) (any : X) (d : Data) (x : X) → outcome (required field form d) (required_value field form any d) ≡ Ok x → optional_value field form d ≡ Some x
required_is field form any d x e = grind arith

-- what was read is the value
pub ok_is : {F X : Type 0} (lines : List F) (x y : X) → outcome lines x ≡ Ok y → x ≡ y
ok_is lines x y e = grind arith

-- a fault that is handed on fails what was read
pub handed_on : {X Y : Type 0} (seen : X → Y) (result : Result X Trouble) (e : Trouble) (read : Result Y Fault) → IsErrAnd result (λ t. t ≡ e) → Fails e read → Gives seen result read
handed_on seen (Ok x) e read h fails = absurd h
handed_on seen (Err t) e read h fails = rw h fails

pub ruleset table_rules = (ok_lines, fails_here, fails_later)
