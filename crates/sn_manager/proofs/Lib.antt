pub mod DueGrows
mod SaidTo
