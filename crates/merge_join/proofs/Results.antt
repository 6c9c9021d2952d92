-- The properties of the value that a successful call gives.
use Rattle.std.proofs.Common.{◌≡◌, false, Ok, Err, Result, OnOk}
use Rattle.std.specs.Result.{is_err}

pub on_ok : {T E : Type 0} (r : Result T E) (P : Type 0) → is_err r ≡ false → OnOk r P → P
on_ok (Ok x) P h p = p
on_ok (Err e) P h p = cc

pub ok_map : {T E : Type 0} (r : Result T E) (P Q : Type 0) → OnOk r P → (P → Q) → OnOk r Q
ok_map (Ok x) P Q p f = f p
ok_map (Err e) P Q p f = tt

pub ok_always : {T E : Type 0} (r : Result T E) (Q : Type 0) → Q → OnOk r Q
ok_always (Ok x) Q q = q
ok_always (Err e) Q q = tt
