mod ShowDigits
