mod Checked
mod Listed
