-- Document 01's job file: `Format` is its bytes, `Text` what is printed of it; the laws beside them are what callers cite.
pub mod Format
pub mod FormatLaws
pub mod DecodingLaws
pub mod Text
pub mod TextLaws
